use Rattle.st_agree.specs.declared.agreement.FieldApart.{FieldApart}
use Rattle.st_laws.proofs.Refusals.{first_agreed, first_same, memory_on}
use Rattle.st_laws.specs.declared.sides.StepSides.{StepSides}
use Rattle.st_marks.specs.Step.{IsStep}
use Rattle.st_marks.specs.declared.steps.Step.{Step}
use Rattle.std.proofs.Common.{◌≡◌}
use Rattle.st_marks.specs.Agree.{ComposeClash}
use Rattle.st_laws.proofs.Behind.{behind_it, refused_before}
use Rattle.st_laws.specs.InOrder.{FirstTogether, Gives, LastTogether, Then}
use Rattle.st_laws.proofs.steps.associative.Goals as goal

pub returns-in-Ok-clause-sides : goal.returns-in-Ok-clause-sides
returns-in-Ok-clause-sides c = λ D E F G x y z p q r. c.beside_last.ensures.sides D E F G x y z p q r (c.in-Ok.ensures.later D E F G x y z p q r)

pub returns-in-Err-clause-sides : goal.returns-in-Err-clause-sides
returns-in-Err-clause-sides c = λ D E F G x y z p q r. memory_on Step StepSides FieldApart (IsStep D G) (λ s. IsStep D G s.left × (s.left ≡ s.right)) c.in-Err.why (c.in-Err.ensures.later D E F G x y z p q r)

pub returns-in-Ok-clause-first : goal.returns-in-Ok-clause-first
returns-in-Ok-clause-first c = λ v w. first_agreed StepSides (ComposeClash c.args.a.now c.args.b.now) c.beside_last.result (c.in-Ok.ensures.first v w)

pub returns-in-Err-clause-first : goal.returns-in-Err-clause-first
returns-in-Err-clause-first c = λ v w. first_same Step StepSides (ComposeClash c.args.a.now c.args.b.now) c.in-Err.why (c.in-Err.ensures.first v w)

pub returns-in-Ok-clause-told : goal.returns-in-Ok-clause-told
returns-in-Ok-clause-told c = λ u v w.
    behind_it Step StepSides (FirstTogether c.args.a.now c.args.b.now c.args.c.now) (λ left. Then (LastTogether c.args.a.now c.args.b.now c.args.c.now) (λ right. Gives (record { left = left; right = right })))
    c.in-Ok.left c.beside_last.result (c.in-Ok.ensures.told u v w) (c.beside_last.ensures.told u v w)

pub returns-in-Err-clause-told : goal.returns-in-Err-clause-told
returns-in-Err-clause-told c = λ u v w.
    refused_before Step StepSides (FirstTogether c.args.a.now c.args.b.now c.args.c.now) (λ left. Then (LastTogether c.args.a.now c.args.b.now c.args.c.now) (λ right. Gives (record { left = left; right = right })))
    c.in-Err.why (c.in-Err.ensures.told u v w)
