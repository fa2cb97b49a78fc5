use Rattle.std.proofs.Common.{◌≡◌, ◌++◌, take}
use Rattle.std.specs.BTreeSet.{contains}
use Rattle.std.specs.List.{flat_map}
use Rattle.st_ids.specs.Order.{cell_cmp}
use Rattle.st_clash.specs.inside.Made.{only_if}
use Rattle.st_clash.proofs.made.push_those_in.Given as goal

abbrev pub invariant-loop-cell : goal.invariant-loop-cell
invariant-loop-cell l = l.bad ≡ l.initial.bad ++ flat_map (only_if (contains cell_cmp l.set)) (take l.cell-index l.cells)
