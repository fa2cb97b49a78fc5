use Rattle.std.proofs.Common.{◌≡◌, map, take}
use Rattle.std.specs.BTreeSet.{contains}
use Rattle.st_ids.specs.Order.{cell_cmp}
use Rattle.st_strip.specs.inside.Told.{settle}
use Rattle.st_strip.proofs.cells.settle_all.Given as goal

abbrev pub invariant-loop-mark : goal.invariant-loop-mark
invariant-loop-mark l = l.list ≡ map (settle (contains cell_cmp l.made)) (take l.mark-index l.marks)
