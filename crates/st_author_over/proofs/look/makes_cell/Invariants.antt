use Rattle.std.proofs.Common.{◌≡◌, drop}
use Rattle.st_marks.specs.Listings.{cells_made, is_among_cells}
use Rattle.st_normal.specs.Rules.{in_rows}
use Rattle.st_author_over.proofs.look.makes_cell.Given as goal

abbrev pub invariant-loop-row : goal.invariant-loop-row
invariant-loop-row l = is_among_cells (in_rows cells_made (drop l.row-index l.rows)) l.cell ≡ is_among_cells (in_rows cells_made l.rows) l.cell
