use Rattle.std.proofs.Common.{◌≡◌, ◌++◌, map, take}
use Rattle.st_turn_places.specs.inside.Sides.{placed_loose}
use Rattle.st_turn_places.proofs.places.add_loose.Given as goal

abbrev pub invariant-loop-one : goal.invariant-loop-one
invariant-loop-one l = l.list ≡ l.initial.list ++ map placed_loose (take l.one-index l.loose)
