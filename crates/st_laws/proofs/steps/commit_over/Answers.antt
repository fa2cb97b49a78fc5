use Rattle.st_laws.proofs.Refusals.{least_of_whole, least_same, memory_on}
use Rattle.st_laws.specs.inside.Together.{StandTogether}
use Rattle.st_marks.proofs.OneVerdict.{carried_extends}
use Rattle.st_marks.specs.Agree.{RebaseClash}
use Rattle.st_marks.specs.Step.{IsStep}
use Rattle.st_marks.specs.Verdict.{carried_document}
use Rattle.st_marks.specs.declared.steps.Step.{Step}
use Rattle.st_agree.specs.declared.agreement.FieldApart.{FieldApart}
use Rattle.st_laws.proofs.steps.commit_over.Goals as goal

pub returns-in-Ok-clause-later : goal.returns-in-Ok-clause-later
returns-in-Ok-clause-later c = λ D E N v u x f g short later emb s is there d.
    c.in_turn.ensures.later D (carried_document v D N) (carried_document u E N) (carried_extends D N v x.before f short is)
    (c.extends_beside.ensures D E N c.args.change.now c.args.step.now v u x f g short later is there emb s) d
    (c.in-Ok.ensures.later D E N v u x f g short later emb s is there)

pub returns-in-Ok-clause-apart : goal.returns-in-Ok-clause-apart
returns-in-Ok-clause-apart c = λ room w v done.
    let agrees = c.in-Ok.ensures.apart room w v in
    let n : StandTogether c.args.change.now c.args.step.now = c.stand_together.ensures c.args.change.now c.args.step.now room w v agrees in
    least_of_whole Step (IsStep n.earlier (carried_document n.after n.later n.intent)) (RebaseClash c.args.change.now c.args.step.now) c.in_turn.result agrees
    (c.in_turn.ensures.later n.earlier (carried_document n.before n.earlier n.intent) (carried_document n.after n.later n.intent) (carried_extends n.earlier n.intent n.before n.extends.before n.fits n.short n.verdict)
    (c.extends_beside.ensures n.earlier n.later n.intent c.args.change.now c.args.step.now n.before n.after n.extends n.fits n.fits_later n.short n.short_later n.verdict n.verdict_later n.change n.step)
    (done n.earlier n.intent n.before n.extends.before n.fits n.short n.change n.verdict)
    (c.in-Ok.ensures.later n.earlier n.later n.intent n.before n.after n.extends n.fits n.fits_later n.short n.short_later n.change n.step n.verdict n.verdict_later))

pub returns-in-Err-clause-later : goal.returns-in-Err-clause-later
returns-in-Err-clause-later c = λ D E N v u x f g short later emb s is there d.
    memory_on Step Step FieldApart (IsStep (carried_document v D N) (carried_document u E N)) (IsStep D (carried_document u E N)) c.in-Err.why (c.in-Err.ensures.later D E N v u x f g short later emb s is there)

pub returns-in-Err-clause-apart : goal.returns-in-Err-clause-apart
returns-in-Err-clause-apart c = λ room w v done. least_same Step Step (RebaseClash c.args.change.now c.args.step.now) c.in-Err.why (c.in-Err.ensures.apart room w v)
