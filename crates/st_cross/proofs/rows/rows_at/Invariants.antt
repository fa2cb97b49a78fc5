use Rattle.std.proofs.Common.{◌≡◌, ◌++◌}
use Rattle.std.specs.BTreeMap.{get}
use Rattle.std.specs.BTreeSet.{contains}
use Rattle.std.specs.List.{filter_map}
use Rattle.st_ids.specs.Order.{node_cmp}
use Rattle.st_cross.specs.Fields.{row_at}
use Rattle.st_cross.proofs.rows.rows_at.Given as goal

-- what is listed, and what is left to be gone through
abbrev pub invariant-loop-node : goal.invariant-loop-node
invariant-loop-node g l = l.list ++ filter_map (row_at g.R.Reading.listed l.across.was l.across.is (contains node_cmp l.across.made.now) (get node_cmp l.across.puts.now) l.change l.step) l.node-iterator ≡ filter_map (row_at g.R.Reading.listed l.across.was l.across.is (contains node_cmp l.across.made.now) (get node_cmp l.across.puts.now) l.change l.step) l.nodes.keys
