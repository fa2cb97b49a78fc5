use Rattle.std.proofs.Common.{◌≡◌, ◌++◌}
use Rattle.std.specs.BTreeMap.{get}
use Rattle.std.specs.BTreeSet.{contains}
use Rattle.std.specs.List.{filter_map}
use Rattle.st_ids.specs.Order.{node_cmp}
use Rattle.st_ids.specs.declared.names.NodeId.{NodeId}
use Rattle.st_steps.specs.WayBack.{loose_back}
use Rattle.st_steps.proofs.loose_back.all_back.Given as goal

-- what is listed, and what is left to be gone through
abbrev pub invariant-loop-node : goal.invariant-loop-node
invariant-loop-node l = l.list ++ filter_map (λ (n : NodeId). loose_back (contains node_cmp l.tables.stood n) (get node_cmp l.tables.spots n) n) l.node-iterator
    ≡ filter_map (λ (n : NodeId). loose_back (contains node_cmp l.tables.stood n) (get node_cmp l.tables.spots n) n) l.nodes.keys
