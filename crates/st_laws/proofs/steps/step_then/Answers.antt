use Rattle.st_marks.proofs.OneVerdict.{carried_extends}
use Rattle.st_marks.specs.Verdict.{carried_document}
use Rattle.st_laws.proofs.steps.step_then.Goals as goal

pub returns : goal.returns
returns c = λ D E N u x g later emb s there.
    c.in_turn.ensures.later D E (carried_document u E N) x (carried_extends E N u x.after g later there) s (c.in_ok-done.ensures E N u x.after g later emb there)
