use Rattle.std.proofs.Common.{◌≡◌, ◌||◌, take}
use Rattle.std.specs.BTreeSet.{contains}
use Rattle.std.specs.List.{list_any}
use Rattle.st_ids.specs.Order.{cell_cmp, same_cell}
use Rattle.st_ids.specs.declared.names.CellId.{CellId}
use Rattle.st_marks.specs.declared.intents.Owned.{Owned}
use Rattle.st_embed.proofs.targets.add_cells.Given as goal

abbrev pub invariant-loop-owned : goal.invariant-loop-owned
invariant-loop-owned l = (c : CellId) → contains cell_cmp l.set c ≡ (contains cell_cmp l.initial.set c || list_any (λ (o : Owned). same_cell o.cell c) (take l.owned-index l.cells))
