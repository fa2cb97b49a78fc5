use Rattle.std.proofs.Common.{sym, subst}
use Rattle.st_seats.specs.Seats.{HasSeat}
use Rattle.st_manager.proofs.Standing.{seat_bridge}
use Rattle.st_manager.proofs.manager.Manager.kept_bridge.Goals as goal

pub returns-in-Some-clause-bridge : goal.returns-in-Some-clause-bridge
returns-in-Some-clause-bridge g c = λ t s. seat_bridge g.R.Carrier.listed t.opening t.log c.args.session c.in-Some.seat.now (subst (HasSeat g.R.Carrier.listed t.opening t.log c.args.session) (sym c.in-Some.ensures.value) (s.seats c.args.session)).1
