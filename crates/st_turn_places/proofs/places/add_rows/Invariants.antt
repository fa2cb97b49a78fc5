use Rattle.std.proofs.Common.{◌≡◌, ◌++◌, take}
use Rattle.std.specs.List.{flat_map}
use Rattle.st_turn_places.specs.inside.Sides.{row_placed}
use Rattle.st_turn_places.proofs.places.add_rows.Given as goal

abbrev pub invariant-loop-row : goal.invariant-loop-row
invariant-loop-row l = l.list ≡ l.initial.list ++ flat_map (row_placed l.after) (take l.row-index l.rows)
