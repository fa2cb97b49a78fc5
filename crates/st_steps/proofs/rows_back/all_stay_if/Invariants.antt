use Rattle.std.proofs.Common.{◌≡◌, map, take}
use Rattle.std.specs.BTreeSet.{contains}
use Rattle.st_ids.specs.Order.{node_cmp}
use Rattle.st_steps.specs.inside.Back.{stay_if}
use Rattle.st_steps.proofs.rows_back.all_stay_if.Given as goal

abbrev pub invariant-loop-mark : goal.invariant-loop-mark
invariant-loop-mark l = l.list ≡ map (stay_if (contains node_cmp l.new)) (take l.mark-index l.marks)
