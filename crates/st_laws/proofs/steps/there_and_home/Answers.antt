use Rattle.st_marks.proofs.Retreat.{retreat_extends}
use Rattle.st_marks.specs.Back.{retreat}
use Rattle.st_laws.proofs.steps.there_and_home.Goals as goal

pub returns : goal.returns
returns c = λ D E x s. c.in_turn.ensures.later D E (retreat D E) x (retreat_extends D E x) s (c.in_ok-back.ensures D E x s)
