-- the nodes of the cells so far
use Rattle.std.proofs.Common.{◌≡◌, map, take}
use Rattle.st_marks.specs.declared.places.Slot.{Slot}
use Rattle.st_resolve.proofs.moves.nodes_of.Given as goal

abbrev pub invariant-loop-slot : goal.invariant-loop-slot
invariant-loop-slot l = l.nodes ≡ map (λ (s : Slot). s.node) (take l.slot-index l.slots)
