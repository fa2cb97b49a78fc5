use Rattle.std.proofs.Common.{ap, false}
use Rattle.st_marks.specs.declared.changes.Change.{Change}
use Rattle.st_passing.specs.Whole.{raised_change}
use Rattle.st_read_laws.proofs.Readings.{one_read}
use Rattle.st_passing_laws.proofs.ChangesLeft.{raised_after}
use Rattle.st_passing_laws.proofs.laws.loose_nodes_pass.Goals as goal

pub returns : goal.returns
returns w = λ D E N C K S x f e c s p k. ap (λ (C : Change). C.loose) (one_read false E N K (raised_change C S) k (raised_after D E N C S x f e c s p))
