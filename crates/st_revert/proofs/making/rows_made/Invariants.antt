use Rattle.std.proofs.Common.{◌≡◌, map, take}
use Rattle.std.specs.BTreeSet.{contains}
use Rattle.st_ids.specs.Order.{node_cmp}
use Rattle.st_revert.specs.inside.Made.{row_made}
use Rattle.st_revert.proofs.making.rows_made.Given as goal

abbrev pub invariant-loop-row : goal.invariant-loop-row
invariant-loop-row l = l.list ≡ map (row_made (contains node_cmp l.new)) (take l.row-index l.rows)
