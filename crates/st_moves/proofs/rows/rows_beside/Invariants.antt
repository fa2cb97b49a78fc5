use Rattle.std.proofs.Common.{◌≡◌, ◌++◌}
use Rattle.std.specs.BTreeMap.{get}
use Rattle.std.specs.BTreeSet.{contains}
use Rattle.std.specs.List.{filter_map}
use Rattle.st_ids.specs.Order.{node_cmp}
use Rattle.st_moves.specs.inside.Rows.{row_beside}
use Rattle.st_moves.proofs.rows.rows_beside.Given as goal

-- what is listed, and what is left to be gone through
abbrev pub invariant-loop-node : goal.invariant-loop-node
invariant-loop-node l = l.list ++ filter_map (row_beside (get node_cmp l.puts) (contains node_cmp l.named) l.change.rows.now l.step.rows.now) l.node-iterator ≡ filter_map (row_beside (get node_cmp l.puts) (contains node_cmp l.named) l.change.rows.now l.step.rows.now) l.nodes.keys
