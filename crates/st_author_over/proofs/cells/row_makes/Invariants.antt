use Rattle.std.proofs.Common.{◌≡◌, drop}
use Rattle.std.specs.List.{list_any}
use Rattle.st_marks.specs.Row.{spread}
use Rattle.st_author_over.specs.inside.Side.{is_make}
use Rattle.st_author_over.proofs.cells.row_makes.Given as goal

abbrev pub invariant-loop-mark : goal.invariant-loop-mark
invariant-loop-mark l = list_any is_make (spread (drop l.mark-index l.marks)) ≡ list_any is_make (spread l.marks)
