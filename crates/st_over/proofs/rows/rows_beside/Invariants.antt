use Rattle.std.proofs.Common.{◌≡◌, ◌++◌}
use Rattle.std.specs.BTreeMap.{get}
use Rattle.std.specs.BTreeSet.{contains}
use Rattle.std.specs.List.{filter_map}
use Rattle.st_ids.specs.Order.{node_cmp}
use Rattle.st_over.specs.inside.Rows.{row_beside}
use Rattle.st_over.proofs.rows.rows_beside.Given as goal

-- what is listed, and what is left to be gone through
abbrev pub invariant-loop-node : goal.invariant-loop-node
invariant-loop-node g l = l.list ++ filter_map (row_beside g.R.Reading.listed (get node_cmp l.aims.puts.now) (contains node_cmp l.aims.named.now) l.change l.step) l.node-iterator ≡ filter_map (row_beside g.R.Reading.listed (get node_cmp l.aims.puts.now) (contains node_cmp l.aims.named.now) l.change l.step) l.nodes.keys
