use Rattle.st_agree.specs.declared.agreement.FieldApart.{FieldApart}
use Rattle.st_laws.proofs.Refusals.{memory_on, memory_part}
use Rattle.st_laws.specs.declared.sides.StepSides.{StepSides}
use Rattle.st_marks.specs.Back.{retreat}
use Rattle.st_marks.specs.Normal.{IsNormalStep}
use Rattle.st_marks.specs.Step.{IsStep}
use Rattle.st_marks.specs.declared.steps.Step.{Step}
use Rattle.std.proofs.Common.{◌≡◌}
use Rattle.st_laws.proofs.steps.neutral.Goals as goal

pub returns-in-Ok-clause-sides : goal.returns-in-Ok-clause-sides
returns-in-Ok-clause-sides c = λ D E x s. c.beside_makings.ensures D E x s (c.in-Ok.ensures D E x s)

pub returns-in-Ok-clause-whole : goal.returns-in-Ok-clause-whole
returns-in-Ok-clause-whole c = λ w.
    let n : IsNormalStep c.args.step.now = c.steps_that_obey_are_normal.ensures c.args.step.now w in
    memory_part StepSides FieldApart (λ t. IsStep n.0 (retreat n.0 n.1) t.left × (t.left ≡ t.right)) (λ t. t.left ≡ t.right) c.beside_makings.result (λ t h. h.1)
    (c.beside_makings.ensures n.0 n.1 n.2 n.3 (c.in-Ok.ensures n.0 n.1 n.2 n.3))

pub returns-in-Err-clause-sides : goal.returns-in-Err-clause-sides
returns-in-Err-clause-sides c = λ D E x s. memory_on Step StepSides FieldApart (IsStep D (retreat D E)) (λ t. IsStep D (retreat D E) t.left × (t.left ≡ t.right)) c.in-Err.why (c.in-Err.ensures D E x s)

pub returns-in-Err-clause-whole : goal.returns-in-Err-clause-whole
returns-in-Err-clause-whole c = λ w.
    let n : IsNormalStep c.args.step.now = c.steps_that_obey_are_normal.ensures c.args.step.now w in
    memory_on Step StepSides FieldApart (IsStep n.0 (retreat n.0 n.1)) (λ t. t.left ≡ t.right) c.in-Err.why (c.in-Err.ensures n.0 n.1 n.2 n.3)
