use Rattle.std.proofs.Common.{◌≡◌, ◌++◌, map, take}
use Rattle.st_doc.specs.declared.seats.Seat.{Seat}
use Rattle.st_doc.proofs.order.push_occupants.Given as goal

abbrev pub invariant-loop-seat : goal.invariant-loop-seat
invariant-loop-seat l = l.order.items ≡ l.initial.order.items ++ map (λ (s : Seat). s.node) (take l.seat-index l.seats)
