use Rattle.st_agree.specs.declared.agreement.FieldApart.{FieldApart}
use Rattle.st_laws.proofs.Refusals.{memory_on}
use Rattle.st_laws.specs.declared.sides.StepSides.{StepSides}
use Rattle.st_marks.proofs.Unique.{one_step}
use Rattle.st_marks.specs.Step.{IsStep}
use Rattle.st_marks.specs.declared.steps.Step.{Step}
use Rattle.std.proofs.Common.{◌≡◌}
use Rattle.std.proofs.Common.{refl}
use Rattle.st_laws.proofs.Behind.{refused_before}
use Rattle.st_laws.specs.InOrder.{Gives, LastTogether}
use Rattle.st_laws.proofs.steps.beside_last.Goals as goal

pub returns-in-Ok-clause-sides : goal.returns-in-Ok-clause-sides
returns-in-Ok-clause-sides c = λ D E F G x y z p q r l. (l, one_step D G c.args.left c.in-Ok.right z.after l (c.in-Ok.ensures.later D E F G x y z p q r))

pub returns-in-Err-clause-sides : goal.returns-in-Err-clause-sides
returns-in-Err-clause-sides c = λ D E F G x y z p q r l. memory_on Step StepSides FieldApart (IsStep D G) (λ s. IsStep D G s.left × (s.left ≡ s.right)) c.in-Err.why (c.in-Err.ensures.later D E F G x y z p q r)

pub returns-in-Ok-clause-last : goal.returns-in-Ok-clause-last
returns-in-Ok-clause-last c = λ v w. c.in-Ok.ensures.last v w

pub returns-in-Ok-clause-told : goal.returns-in-Ok-clause-told
returns-in-Ok-clause-told c = λ u v w. (c.in-Ok.right, c.in-Ok.ensures.told u v w, refl)

pub returns-in-Err-clause-told : goal.returns-in-Err-clause-told
returns-in-Err-clause-told c = λ u v w. refused_before Step StepSides (LastTogether c.args.a.now c.args.b.now c.args.c.now) (λ right. Gives (record { left = c.args.left; right = right })) c.in-Err.why (c.in-Err.ensures.told u v w)
