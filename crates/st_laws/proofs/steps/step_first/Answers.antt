use Rattle.st_laws.proofs.Refusals.{memory_on}
use Rattle.st_marks.specs.Embedding.{IsEmbedding}
use Rattle.st_marks.specs.Step.{IsStep}
use Rattle.st_marks.specs.Verdict.{carried_document}
use Rattle.st_marks.specs.declared.changes.Change.{Change}
use Rattle.st_marks.specs.declared.steps.Step.{Step}
use Rattle.st_agree.specs.declared.agreement.FieldApart.{FieldApart}
use Rattle.st_laws.proofs.steps.step_first.Goals as goal

pub returns-in-Ok : goal.returns-in-Ok
returns-in-Ok c = λ D E N u x f g later emb s there. c.step_then.ensures D E N u x g later (c.in-Ok.ensures.later D E N x f g later emb s) s there

pub returns-in-Err : goal.returns-in-Err
returns-in-Err c = λ D E N u x f g later emb s there.
    memory_on Change Step FieldApart (IsEmbedding E N) (IsStep D (carried_document u E N)) c.in-Err.why (c.in-Err.ensures.later D E N x f g later emb s)
