use Rattle.st_agree.specs.declared.agreement.FieldApart.{FieldApart}
use Rattle.st_laws.proofs.Refusals.{memory_on}
use Rattle.st_marks.specs.CarryOut.{full}
use Rattle.st_marks.specs.Embedding.{IsEmbedding}
use Rattle.st_marks.specs.Step.{IsStep}
use Rattle.st_marks.specs.declared.changes.Change.{Change}
use Rattle.st_marks.specs.declared.steps.Step.{Step}
use Rattle.st_marks.specs.declared.verdicts.Verdict.TheVariants.{Sound}
use Rattle.st_laws.proofs.Behind.{behind_it, refused_before}
use Rattle.st_laws.proofs.OneCall.{bridged_obeys}
use Rattle.st_laws.specs.InOrder.{Bridged, Rebased}
use Rattle.st_laws.proofs.parts.second_over.Goals as goal

pub returns-in-Ok-clause-later : goal.returns-in-Ok-clause-later
returns-in-Ok-clause-later c = λ D E N M J w sound sound-later.
    c.over.ensures.later (full D N) (full E N) M
    (c.extends_beside.ensures D E N c.args.first.now c.args.step.now Sound Sound w.extends w.parts.first_fits w.first_fits w.first_short w.first_short_later sound sound-later w.first w.step)
    w.parts.then_fits w.then_fits w.both_short_later w.next
    (c.in-Ok.ensures.later D E N Sound Sound w.extends w.parts.first_fits w.first_fits w.first_short w.first_short_later w.first w.step sound sound-later)

pub returns-in-Err-clause-later : goal.returns-in-Err-clause-later
returns-in-Err-clause-later c = λ D E N M J w sound sound-later. memory_on Step Change FieldApart (IsStep (full D N) (full E N)) (IsEmbedding (full E N) M) c.in-Err.why
    (c.in-Err.ensures.later D E N Sound Sound w.extends w.parts.first_fits w.first_fits w.first_short w.first_short_later w.first w.step sound sound-later)

pub returns-in-Ok-clause-told : goal.returns-in-Ok-clause-told
returns-in-Ok-clause-told c = λ v w s. let h = c.in-Ok.ensures.told v s in
    behind_it Step Change (Bridged c.args.step.now c.args.first.now) (λ between. Rebased c.args.then.now between) c.in-Ok.between c.over.result h
    (c.over.ensures.told w (bridged_obeys c.args.step.now c.args.first.now c.in-Ok.between s h))

pub returns-in-Err-clause-told : goal.returns-in-Err-clause-told
returns-in-Err-clause-told c = λ v w s. refused_before Step Change (Bridged c.args.step.now c.args.first.now) (λ between. Rebased c.args.then.now between) c.in-Err.why (c.in-Err.ensures.told v s)
