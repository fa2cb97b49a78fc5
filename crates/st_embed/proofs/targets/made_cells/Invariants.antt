use Rattle.std.proofs.Common.{◌≡◌, take}
use Rattle.std.specs.BTreeSet.{contains}
use Rattle.st_ids.specs.Order.{cell_cmp}
use Rattle.st_ids.specs.declared.names.CellId.{CellId}
use Rattle.st_embed.specs.inside.Rows.{makes}
use Rattle.st_embed.proofs.targets.made_cells.Given as goal

abbrev pub invariant-loop-group : goal.invariant-loop-group
invariant-loop-group l = (c : CellId) → contains cell_cmp l.set c ≡ makes (take l.group-index l.group-items) c
