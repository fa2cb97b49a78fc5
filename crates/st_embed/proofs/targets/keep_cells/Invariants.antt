use Rattle.std.proofs.Common.{◌≡◌, take, cond, Some, None}
use Rattle.std.specs.BTreeMap.{get}
use Rattle.std.specs.List.{list_any}
use Rattle.std.specs.Option.{option_or}
use Rattle.st_ids.specs.declared.names.CellId.{CellId}
use Rattle.st_ids.specs.Order.{cell_cmp, same_cell}
use Rattle.st_marks.specs.declared.intents.Owned.{Owned}
use Rattle.st_embed.proofs.targets.keep_cells.Given as goal

abbrev pub invariant-loop-owned : goal.invariant-loop-owned
invariant-loop-owned l = (c : CellId) → get cell_cmp l.rows c ≡ option_or (get cell_cmp l.initial.rows c) (cond (list_any (λ (o : Owned). same_cell o.cell c) (take l.owned-index l.cells)) (Some l.node) None)
