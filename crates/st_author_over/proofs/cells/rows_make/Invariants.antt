use Rattle.std.proofs.Common.{◌≡◌, drop}
use Rattle.std.specs.List.{list_any}
use Rattle.st_marks.specs.declared.marks.RowMarks.{RowMarks}
use Rattle.st_marks.specs.Row.{spread}
use Rattle.st_author_over.specs.inside.Side.{is_make}
use Rattle.st_author_over.proofs.cells.rows_make.Given as goal

abbrev pub invariant-loop-row : goal.invariant-loop-row
invariant-loop-row l = list_any (λ (r : RowMarks). list_any is_make (spread r.marks)) (drop l.row-index l.rows) ≡ list_any (λ (r : RowMarks). list_any is_make (spread r.marks)) l.rows
