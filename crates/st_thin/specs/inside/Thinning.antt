-- A row laid before counts of all that it leaves.
use Rattle.std.specs.Prelude.{◌^◌, nat_lt, length, if◌then◌else◌}
use Rattle.st_marks.specs.declared.marks.RowMarks.{RowMarks}
use Rattle.st_marks.specs.Row.{CellMark, spread}
use Rattle.st_mention_laws.specs.Shown.{thin_row, unnamed}
use Rattle.st_rows.specs.Walks.{CellPiece, Both, First, Then}

-- a cell and its count
abbrev pub thinned : CellPiece → CellMark
thinned (Both x y) = unnamed x
thinned (First x) = unnamed x
thinned (Then y) = y

-- too many cells stay as they are
abbrev pub row_thinned : RowMarks → RowMarks
row_thinned r = if nat_lt (length (spread r.marks)) (2 ^ 32) then thin_row r else r
