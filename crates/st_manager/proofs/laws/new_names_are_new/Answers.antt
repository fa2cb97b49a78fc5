use Rattle.st_manager.proofs.NewNames.{names_new}
use Rattle.st_manager.proofs.laws.new_names_are_new.Goals as goal

pub returns : goal.returns
returns c = names_new
