use Rattle.std.proofs.Common.{◌≡◌}
use Rattle.st_laws.proofs.Refusals.{least_of_whole, least_same, memory_on, ok_of_whole}
use Rattle.st_laws.specs.inside.Together.{StandTogether}
use Rattle.st_marks.specs.Agree.{RebaseClash}
use Rattle.st_marks.specs.Step.{IsStep}
use Rattle.st_marks.specs.Verdict.{carried_document}
use Rattle.st_marks.specs.declared.steps.Step.{Step}
use Rattle.st_laws.specs.declared.sides.StepSides.{StepSides}
use Rattle.st_agree.specs.declared.agreement.FieldApart.{FieldApart}
use Rattle.st_laws.proofs.steps.bridge_in_turn.Goals as goal

pub returns-in-Ok-clause-sides : goal.returns-in-Ok-clause-sides
returns-in-Ok-clause-sides c = λ D E N v u x f g short later emb s is there.
    c.beside_step.ensures D E N u x f g later emb s there (c.in-Ok.ensures.later D E N v u x f g short later emb s is there)

pub returns-in-Ok-clause-apart : goal.returns-in-Ok-clause-apart
returns-in-Ok-clause-apart c = λ room w v.
    let agrees = c.in-Ok.ensures.apart room w v in
    let n : StandTogether c.args.change.now c.args.step.now = c.stand_together.ensures c.args.change.now c.args.step.now room w v agrees in
    least_of_whole StepSides (λ t. IsStep n.earlier (carried_document n.after n.later n.intent) t.left × (t.left ≡ t.right)) (RebaseClash c.args.change.now c.args.step.now) c.beside_step.result agrees
    (c.beside_step.ensures n.earlier n.later n.intent n.after n.extends n.fits n.fits_later n.short_later n.change n.step n.verdict_later
    (c.in-Ok.ensures.later n.earlier n.later n.intent n.before n.after n.extends n.fits n.fits_later n.short n.short_later n.change n.step n.verdict n.verdict_later))

pub returns-in-Ok-clause-equal : goal.returns-in-Ok-clause-equal
returns-in-Ok-clause-equal c = λ room w v.
    let agrees = c.in-Ok.ensures.apart room w v in
    let n : StandTogether c.args.change.now c.args.step.now = c.stand_together.ensures c.args.change.now c.args.step.now room w v agrees in
    ok_of_whole StepSides FieldApart (λ t. IsStep n.earlier (carried_document n.after n.later n.intent) t.left × (t.left ≡ t.right)) (λ t. t.left ≡ t.right) c.beside_step.result (λ t h. h.1)
    (c.beside_step.ensures n.earlier n.later n.intent n.after n.extends n.fits n.fits_later n.short_later n.change n.step n.verdict_later
    (c.in-Ok.ensures.later n.earlier n.later n.intent n.before n.after n.extends n.fits n.fits_later n.short n.short_later n.change n.step n.verdict n.verdict_later))

pub returns-in-Err-clause-sides : goal.returns-in-Err-clause-sides
returns-in-Err-clause-sides c = λ D E N v u x f g short later emb s is there.
    memory_on Step StepSides FieldApart (IsStep D (carried_document u E N)) (λ t. IsStep D (carried_document u E N) t.left × (t.left ≡ t.right)) c.in-Err.why (c.in-Err.ensures.later D E N v u x f g short later emb s is there)

pub returns-in-Err-clause-apart : goal.returns-in-Err-clause-apart
returns-in-Err-clause-apart c = λ room w v. least_same Step StepSides (RebaseClash c.args.change.now c.args.step.now) c.in-Err.why (c.in-Err.ensures.apart room w v)
