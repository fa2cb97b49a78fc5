use Rattle.st_agree.specs.declared.agreement.FieldApart.{FieldApart}
use Rattle.st_laws.proofs.Refusals.{memory_on, ok_always}
use Rattle.st_marks.specs.Embedding.{IsEmbedding}
use Rattle.st_marks.specs.declared.changes.Change.{Change}
use Rattle.st_ids.specs.declared.fault.Or.{Or}
use Rattle.st_marks.specs.Agree.{Agrees, RebaseClash}
use Rattle.st_laws.proofs.Behind.{behind_it, refused_before}
use Rattle.st_laws.proofs.OneCall.{rebased_obeys}
use Rattle.st_laws.specs.InOrder.{Joined, Rebased, SecondOver, Then}
use Rattle.st_laws.proofs.parts.each_over.Goals as goal

pub returns-in-Ok-clause-later : goal.returns-in-Ok-clause-later
returns-in-Ok-clause-later c = λ D E N M J w sound sound-later. c.behind_first.ensures.later D E N M J w sound sound-later (c.in-Ok.ensures.later D E N w.extends w.parts.first_fits w.first_fits w.first_short_later w.first w.step)

pub returns-in-Err-clause-later : goal.returns-in-Err-clause-later
returns-in-Err-clause-later c = λ D E N M J w sound sound-later. memory_on Change Change FieldApart (IsEmbedding E N) (IsEmbedding E J) c.in-Err.why (c.in-Err.ensures.later D E N w.extends w.parts.first_fits w.first_fits w.first_short_later w.first w.step)

pub returns-in-Ok-clause-each : goal.returns-in-Ok-clause-each
returns-in-Ok-clause-each c = λ room v w. ok_always Change (Or FieldApart) (λ s. Agrees (RebaseClash c.args.first.now c.args.step.now)) c.behind_first.result (λ s. c.in-Ok.ensures.apart room v w)

pub returns-in-Ok-clause-told : goal.returns-in-Ok-clause-told
returns-in-Ok-clause-told c = λ v w s. let h = c.in-Ok.ensures.told v s in
    behind_it Change Change (Rebased c.args.first.now c.args.step.now) (λ later. Then (SecondOver c.args.first.now c.args.then.now c.args.step.now) (λ second. Joined later second)) c.in-Ok.later c.behind_first.result h
    (c.behind_first.ensures.told (rebased_obeys c.args.first.now c.args.step.now c.in-Ok.later v h) v w s)

pub returns-in-Err-clause-told : goal.returns-in-Err-clause-told
returns-in-Err-clause-told c = λ v w s. refused_before Change Change (Rebased c.args.first.now c.args.step.now) (λ later. Then (SecondOver c.args.first.now c.args.then.now c.args.step.now) (λ second. Joined later second)) c.in-Err.why (c.in-Err.ensures.told v s)
