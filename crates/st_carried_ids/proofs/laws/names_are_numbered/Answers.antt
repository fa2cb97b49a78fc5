use Rattle.st_carried_ids.proofs.Numbered.{numbered_up_to}
use Rattle.st_carried_ids.proofs.laws.names_are_numbered.Goals as goal

pub returns : goal.returns
returns c = numbered_up_to
