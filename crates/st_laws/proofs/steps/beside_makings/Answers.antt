use Rattle.st_marks.proofs.Unique.{one_step}
use Rattle.st_marks.proofs.Retreat.{retreat_extends}
use Rattle.st_marks.specs.Back.{retreat}
use Rattle.st_laws.proofs.steps.beside_makings.Goals as goal

pub returns : goal.returns
returns c = λ D E x s l. (l, one_step D (retreat D E) c.args.left c.in_ok-right.right (retreat_extends D E x).after l (c.in_ok-right.ensures D E x s))
