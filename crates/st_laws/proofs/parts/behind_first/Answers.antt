use Rattle.st_agree.specs.declared.agreement.FieldApart.{FieldApart}
use Rattle.st_laws.proofs.PartsLater.{parts_later}
use Rattle.st_laws.proofs.Refusals.{memory_on}
use Rattle.st_marks.specs.CarryOut.{full}
use Rattle.st_marks.specs.Embedding.{IsEmbedding}
use Rattle.st_marks.specs.declared.changes.Change.{Change}
use Rattle.st_laws.proofs.Behind.{behind_it, refused_before}
use Rattle.st_laws.proofs.OneCall.{rebased_obeys}
use Rattle.st_laws.specs.InOrder.{Joined, SecondOver}
use Rattle.st_laws.proofs.parts.behind_first.Goals as goal

pub returns-in-Ok-clause-later : goal.returns-in-Ok-clause-later
returns-in-Ok-clause-later c = λ D E N M J w sound sound-later later.
    c.as_one.ensures.later E N M J w.extends.after (parts_later D E N M J c.args.first.now c.args.then.now c.args.step.now w) sound-later.2 w.join w.first_short_later w.both_short_later later (c.in-Ok.ensures.later D E N M J w sound sound-later)

pub returns-in-Err-clause-later : goal.returns-in-Err-clause-later
returns-in-Err-clause-later c = λ D E N M J w sound sound-later later. memory_on Change Change FieldApart (IsEmbedding (full E N) M) (IsEmbedding E J) c.in-Err.why (c.in-Err.ensures.later D E N M J w sound sound-later)

pub returns-in-Ok-clause-told : goal.returns-in-Ok-clause-told
returns-in-Ok-clause-told c = λ l v w s. let h = c.in-Ok.ensures.told v w s in
    behind_it Change Change (SecondOver c.args.first.now c.args.then.now c.args.step.now) (λ second. Joined c.args.later.now second) c.in-Ok.second c.as_one.result h
    (c.as_one.ensures.told l (rebased_obeys c.args.then.now h.0 c.in-Ok.second w h.2))

pub returns-in-Err-clause-told : goal.returns-in-Err-clause-told
returns-in-Err-clause-told c = λ l v w s. refused_before Change Change (SecondOver c.args.first.now c.args.then.now c.args.step.now) (λ second. Joined c.args.later.now second) c.in-Err.why (c.in-Err.ensures.told v w s)
