use Rattle.st_marks.specs.Listings.{nodes_new}
use Rattle.st_rows.proofs.Existence.{lists_new}
use Rattle.st_cross_laws.proofs.NodesCovered.{across_covers}
use Rattle.st_cross_laws.proofs.laws.steps_over_changes_are_covered.Goals as goal

pub returns : goal.returns
returns c = λ D E N C X S v u x f g first change later step. across_covers D E N C X S (nodes_new C.new) v u x f g first change later step (lists_new D N C change)
