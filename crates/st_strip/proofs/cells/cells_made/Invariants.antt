use Rattle.std.proofs.Common.{◌≡◌, take}
use Rattle.std.specs.BTreeSet.{contains}
use Rattle.std.specs.List.{list_any}
use Rattle.st_ids.specs.Order.{cell_cmp}
use Rattle.st_ids.specs.declared.names.CellId.{CellId}
use Rattle.st_strip.specs.inside.Told.{makes}
use Rattle.st_strip.proofs.cells.cells_made.Given as goal

abbrev pub invariant-loop-mark : goal.invariant-loop-mark
invariant-loop-mark l = (a : CellId) → contains cell_cmp l.set a ≡ list_any (makes a) (take l.mark-index l.marks)
