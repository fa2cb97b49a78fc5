-- the steps that were drawn lead on from the world at first
use Rattle.std.proofs.Common.{◌≤◌, ◌-◌}
use Rattle.st_run.proofs.Loads.{IsDrawing}
use Rattle.st_run.proofs.work.draw_all.Given as goal

abbrev pub invariant-drawing : goal.invariant-drawing
invariant-drawing l = record {
  so_far : IsDrawing l.initial.world l.world l.seed l.steps l.work l.refused;
  few : l.refused ≤ l.work.made;
  within : l.work.made ≤ l.steps;
}

abbrev pub decreases-drawing : goal.decreases-drawing
decreases-drawing l = l.steps - l.work.made
