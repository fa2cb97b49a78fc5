use Rattle.st_conform_laws.proofs.JoinsThatKeep.{joined_keeps}
use Rattle.st_conform_laws.proofs.laws.joins_keep.Goals as goal

pub returns : goal.returns
returns c = λ T D N M J s p j lives tells a c. joined_keeps T D N M J s p j lives tells a c
