use Rattle.std.proofs.Common.{◌-◌}
use Rattle.st_void.specs.Standing.{above_shown}
use Rattle.st_climb.proofs.StepsUp.{HasClimbed}
use Rattle.st_void.proofs.climb.is_above.Given as goal

abbrev pub invariant-climb : goal.invariant-climb
invariant-climb l = HasClimbed (above_shown l.when l.change) l.initial.here l.to l.steps l.here

abbrev pub decreases-climb : goal.decreases-climb
decreases-climb l = l.most - l.steps
