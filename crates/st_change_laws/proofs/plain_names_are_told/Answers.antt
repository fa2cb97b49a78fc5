use Rattle.st_change_laws.proofs.Before.{change_same}
use Rattle.st_change_laws.proofs.plain_names_are_told.Goals as goal

pub returns : goal.returns
returns c = change_same
