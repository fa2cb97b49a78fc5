-- Where nodes stand, as a listing of a change tells.
use Rattle.std.specs.Prelude.{List, ◌++◌}
use Rattle.std.specs.List.{flat_map}
use Rattle.st_ids.specs.declared.names.NodeId.{NodeId}
use Rattle.st_marks.specs.declared.changes.Change.{Change}
use Rattle.st_marks.specs.declared.marks.RegMark.{RegMark}
use Rattle.st_marks.specs.declared.marks.RowMarks.{RowMarks}
use Rattle.st_marks.specs.declared.places.Spot.{Spot}
use Rattle.st_puts.specs.inside.Spots.{held_spot, stood_by}

-- who stands in a row's cells
abbrev pub stood_in_row : RowMarks → List (NodeId × Spot)
stood_in_row r = flat_map (stood_by r.node) r.marks

-- who is in a register
abbrev pub stood_in_register : RegMark → List (NodeId × Spot)
stood_in_register r = held_spot r.field r.held

-- who stands where, as the listing tells
abbrev pub places_told : Change → List (NodeId × Spot)
places_told C = flat_map stood_in_row C.rows ++ flat_map stood_in_register C.regs
