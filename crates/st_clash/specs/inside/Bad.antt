-- The cells by which a rule is broken, and the rows that name them.
use Rattle.std.specs.Prelude.{Bool, List, [], ◌∷◌, ◌++◌, Option, if◌then◌else◌}
use Rattle.std.specs.List.{flat_map, list_any}
use Rattle.st_ids.specs.declared.names.CellId.{CellId}
use Rattle.st_ids.specs.declared.names.FieldId.{FieldId}
use Rattle.st_marks.specs.declared.marks.RowMarks.{RowMarks}
use Rattle.st_marks.specs.Agree.{row_field}
use Rattle.st_marks.specs.Listings.{cells_in, is_among_cells}
use Rattle.st_marks.specs.Row.{spread}
use Rattle.st_clash.specs.declared.seen.Seen.{Seen}
use Rattle.st_clash.specs.inside.Made.{made_in_rows, named_in_rows, only_if}
use Rattle.st_clash.specs.inside.Seen.{apart_cell, row_seen}

-- the cells of which a table of others tells otherwise, and those that one makes and the other names
abbrev pub bad_cells : List RowMarks → List RowMarks → (CellId → Option Seen) → List CellId
bad_cells rows others at = flat_map (apart_cell at) (flat_map row_seen rows)
    ++ flat_map (only_if (is_among_cells (made_in_rows others))) (named_in_rows rows)
    ++ flat_map (only_if (is_among_cells (made_in_rows rows))) (named_in_rows others)

-- the field of a row that names a cell which passes a test
abbrev pub row_naming : (CellId → Bool) → RowMarks → List FieldId
row_naming p r = if list_any p (cells_in (spread r.marks)) then row_field r.node ∷ [] else []
