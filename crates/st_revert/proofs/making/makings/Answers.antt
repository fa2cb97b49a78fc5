use Rattle.st_marks.specs.Back.{retreat}
use Rattle.st_marks.proofs.Retreat.{retreat_extends}
use Rattle.st_marks.proofs.Turns.{extends_on}
use Rattle.st_revert.proofs.making.makings.Goals as goal

pub returns : goal.returns
returns c = λ D E x s. c.trim_step.ensures.exact D (retreat D E) s.mentioned (extends_on D E (retreat D E) x (retreat_extends D E x)) (c.in_ok-listing.ensures D E x s)
