use Rattle.st_conform_laws.proofs.EditsThatKeep.{edit_keeps}
use Rattle.st_conform_laws.proofs.laws.edits_keep.Goals as goal

pub returns : goal.returns
returns c = λ T D G edit N s here fits nodes cells told tells e. edit_keeps T D s here N fits G edit nodes cells told tells e
