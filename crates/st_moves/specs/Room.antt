-- What a change and a step list together fits a row.
use Rattle.std.specs.Prelude.{◌<◌, ◌^◌, List}
use Rattle.st_ids.specs.declared.names.NodeId.{NodeId}
use Rattle.st_marks.specs.declared.changes.Change.{Change}
use Rattle.st_marks.specs.declared.marks.RowMarks.{RowMarks}
use Rattle.st_marks.specs.declared.steps.Step.{Step}
use Rattle.st_marks.specs.Listings.{marks_of}
use Rattle.st_rows.specs.Changes.{may_list}

-- of a row, what both make and what either finds are fewer than 2^32 cells
abbrev pub HasRoomAt : List RowMarks → List RowMarks → NodeId → Type 0
HasRoomAt cs ss n = (may_list (marks_of cs n) (marks_of ss n) < 2 ^ 32) × (may_list (marks_of ss n) (marks_of cs n) < 2 ^ 32)

-- that holds of each row
abbrev pub HasRoomInRows : Change → Step → Type 0
HasRoomInRows C S = (n : NodeId) → HasRoomAt C.rows S.rows n
