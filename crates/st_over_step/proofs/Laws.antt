-- A step over a document leads from it.
use Rattle.std.proofs.Common.{◌↔◌}
use Rattle.st_marks.specs.declared.steps.Step.{Step}
use Rattle.st_marks.specs.Document.{Document, IsSoundInForm}
use Rattle.st_marks.specs.Normal.{IsNormalStep}
use Rattle.st_normal.specs.Rules.{ObeysStepRules}
use Rattle.st_normal_laws.proofs.StepRules.{step_obeys}
use Rattle.st_normal_step_laws.specs.StepOver.{IsOverStep, later}
use Rattle.st_normal_step_laws.proofs.RingsLater.{later_extends}
use Rattle.st_normal_step_laws.proofs.StepLater.{step_over}
use Rattle.st_normal_step_laws.proofs.StepsFind.{finds_what_is_so}
use Rattle.st_over_step.specs.Over.{LeadsFrom}

pub obeys : (S : Step) → IsNormalStep S → ObeysStepRules S
obeys S n = step_obeys n.0 n.1 S n.2 n.3

pub leads : (D : Document) (S : Step) → IsSoundInForm D → IsNormalStep S → IsOverStep D S ↔ LeadsFrom D S
leads D S sound n = (
  λ o. (later D S, later_extends D S sound (obeys S n) o, step_over D S sound (obeys S n) o),
  λ l. finds_what_is_so D l.0 S l.1 l.2,
)
