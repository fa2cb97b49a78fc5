-- The steps of a load bring in no schema.
use Rattle.std.proofs.Common.{◌+◌, ℕ, zero, suc}
use Rattle.std.specs.List.{AllByRecursion}
use Rattle.st_script.specs.Steps.{StepView}
use Rattle.st_world_laws.specs.Worlds.{KeepsRules}
use Rattle.st_work.specs.Generator.{act_planned, after_step, next_plan, steps_from}
use Rattle.st_work.specs.declared.work.Plan.{Plan}
use Rattle.st_work.specs.declared.work.Plan.TheVariants as plan
use Rattle.st_work.specs.declared.work.Work.{Work}

planned_rules : (n : ℕ) (p : Plan) → KeepsRules (act_planned n p)
planned_rules n (plan.Insert index) = tt
planned_rules n (plan.Remove index) = tt
planned_rules n (plan.Move index to_index) = tt
planned_rules n plan.Sequence = tt
planned_rules n plan.Deliver = tt

pub drawn_rules : (g : Work) (count : ℕ) → AllByRecursion (λ (s : StepView). KeepsRules s.act) (steps_from g count)
drawn_rules g zero = tt
drawn_rules g (suc count) = (planned_rules (g.made + 1) (next_plan g).0, drawn_rules (after_step g) count)
