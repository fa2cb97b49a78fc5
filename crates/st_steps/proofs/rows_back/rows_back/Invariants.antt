use Rattle.std.proofs.Common.{◌≡◌, map, take}
use Rattle.std.specs.BTreeSet.{contains}
use Rattle.st_ids.specs.Order.{node_cmp}
use Rattle.st_steps.specs.inside.Back.{row_turned}
use Rattle.st_steps.proofs.rows_back.rows_back.Given as goal

abbrev pub invariant-loop-row : goal.invariant-loop-row
invariant-loop-row l = l.list ≡ map (row_turned (contains node_cmp l.new)) (take l.row-index l.rows)
