-- so many turns were made, and what follows them follows from the first world
use Rattle.std.proofs.Common.{◌≤◌, ◌-◌}
use Rattle.st_script.specs.Steps.{step_view}
use Rattle.st_script.specs.declared.answer.Answer.TheVariants as answer
use Rattle.st_run.proofs.Loads.{IsMaking}
use Rattle.st_run.proofs.work.until.Given as goal

abbrev pub invariant-making : goal.invariant-making
invariant-making l = record {
  so_far : IsMaking l.initial.world l.world (step_view l.step) (answer.No l.last) l.turns;
  within : l.turns ≤ 262144;
}

abbrev pub decreases-making : goal.decreases-making
decreases-making l = 262144 - l.turns
