use Rattle.std.proofs.Common.{subst}
use Rattle.st_seats.specs.inside.Rising.{HasGone}
use Rattle.st_seats.proofs.rising.leave_behind.Goals as goal

pub returns-in_ok-bridge-in-Some : goal.returns-in_ok-bridge-in-Some
returns-in_ok-bridge-in-Some g c = λ A B T x y gone bridge. c.in_ok-bridge-in-Some.ensures A B T x y (subst (HasGone g.R.Carrier.listed A B) c.in-Some.is gone) bridge
