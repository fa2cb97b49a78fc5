-- Steps that are drawn are within the limits of steps.
use Rattle.std.proofs.Common.{◌≡◌, ℕ, refl, arith}
use Rattle.st_script.specs.Steps.{IsWithinLimits, StepView}
use Rattle.st_work.specs.Generator.{step_planned}
use Rattle.st_work.specs.declared.work.Plan.{Plan}
use Rattle.st_work.specs.declared.work.Plan.TheVariants as plan

pub planned_is_within : (n client : ℕ) (p : Plan) → IsWithinLimits (step_planned n client p)
planned_is_within n client (plan.Insert index) = (refl, omega arith)
planned_is_within n client (plan.Remove index) = omega arith
planned_is_within n client (plan.Move index to_index) = (omega arith, omega arith)
planned_is_within n client plan.Sequence = tt
planned_is_within n client plan.Deliver = tt
