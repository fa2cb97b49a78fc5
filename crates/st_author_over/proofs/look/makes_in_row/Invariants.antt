use Rattle.std.proofs.Common.{◌≡◌, drop}
use Rattle.st_marks.specs.Listings.{cells_made, is_among_cells}
use Rattle.st_marks.specs.Row.{spread}
use Rattle.st_author_over.proofs.look.makes_in_row.Given as goal

abbrev pub invariant-loop-mark : goal.invariant-loop-mark
invariant-loop-mark l = is_among_cells (cells_made (spread (drop l.mark-index l.marks))) l.cell ≡ is_among_cells (cells_made (spread l.marks)) l.cell
