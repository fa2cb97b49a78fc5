-- What a change lists of a row is short enough for one.
use Rattle.std.specs.Prelude.{◌<◌, ◌^◌, length}
use Rattle.std.specs.List.{AllByRecursion}
use Rattle.st_marks.specs.declared.changes.Change.{Change}
use Rattle.st_marks.specs.declared.marks.RowMarks.{RowMarks}
use Rattle.st_marks.specs.Row.{spread}

-- each row lists fewer than 2^32 cells, those that are found and those that are made
abbrev pub HasShortRowsListed : Change → Type 0
HasShortRowsListed C = AllByRecursion (λ (r : RowMarks). length (spread r.marks) < 2 ^ 32) C.rows
