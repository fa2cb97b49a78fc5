use Rattle.std.proofs.Common.{◌≡◌, take, cond, Some, None}
use Rattle.std.specs.BTreeMap.{get}
use Rattle.std.specs.List.{list_any}
use Rattle.std.specs.Option.{option_or}
use Rattle.st_ids.specs.declared.names.CellId.{CellId as Cell}
use Rattle.st_ids.specs.Order.{cell_cmp, same_cell}
use Rattle.st_doc.proofs.names.add_cells.Given as goal

abbrev pub invariant-loop-owned : goal.invariant-loop-owned
invariant-loop-owned l = (c : Cell) → get cell_cmp l.row_of c ≡ option_or (get cell_cmp l.initial.row_of c) (cond (list_any (λ o. same_cell o.cell c) (take l.owned-index l.cells)) (Some l.node) None)
