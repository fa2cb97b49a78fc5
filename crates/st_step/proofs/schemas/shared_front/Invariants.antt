use Rattle.std.proofs.Common.{◌-◌, length}
use Rattle.st_step.proofs.Fronts.{IsFront}
use Rattle.st_step.proofs.schemas.shared_front.Given as goal

abbrev pub invariant-loop-front : goal.invariant-loop-front
invariant-loop-front l = IsFront l.before l.after l.front

abbrev pub decreases-loop-front : goal.decreases-loop-front
decreases-loop-front l = length l.before - l.front
