use Rattle.st_valid.proofs.NamesOfChanges.{no_more_names}
use Rattle.st_valid.proofs.laws.changes_make_all_names.Goals as goal

pub returns : goal.returns
returns c = no_more_names
