use Rattle.std.proofs.Common.{◌≡◌, take}
use Rattle.std.specs.BTreeSet.{contains}
use Rattle.st_ids.specs.declared.names.CellId.{CellId}
use Rattle.st_ids.specs.Order.{cell_cmp}
use Rattle.st_marks.specs.Listings.{is_among_cells}
use Rattle.st_turn_names.proofs.owners.set_of.Given as goal

abbrev pub invariant-loop-cell : goal.invariant-loop-cell
invariant-loop-cell l = (c : CellId) → contains cell_cmp l.set c ≡ is_among_cells (take l.cell-index l.cells) c
