use Rattle.std.proofs.Common.{◌≡◌, ◌++◌, take}
use Rattle.std.specs.BTreeSet.{contains}
use Rattle.std.specs.List.{flat_map}
use Rattle.st_ids.specs.Order.{cell_cmp, node_cmp}
use Rattle.st_turn_names.specs.inside.Early.{early_by}
use Rattle.st_turn_names.proofs.owners.add_early.Given as goal

abbrev pub invariant-loop-mark : goal.invariant-loop-mark
invariant-loop-mark l = l.list ≡ l.initial.list ++ flat_map (early_by (contains node_cmp l.made.nodes) (contains cell_cmp l.made.cells)) (take l.mark-index l.marks)
