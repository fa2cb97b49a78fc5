use Rattle.std.proofs.Common.{◌≡◌, ◌++◌, true}
use Rattle.std.specs.BTreeMap.{get}
use Rattle.std.specs.BTreeSet.{contains}
use Rattle.std.specs.List.{filter_map}
use Rattle.st_ids.specs.Order.{node_cmp}
use Rattle.st_ids.specs.declared.names.NodeId.{NodeId}
use Rattle.st_strip.specs.Rest.{rest_loose}
use Rattle.st_strip.specs.inside.Told.{nowhere_told}
use Rattle.st_strip.proofs.loose.all_rest.Given as goal

-- what is listed, and what is left to be gone through
abbrev pub invariant-loop-node : goal.invariant-loop-node
invariant-loop-node l =
    l.list ++ filter_map (λ (n : NodeId). rest_loose true (nowhere_told (get node_cmp l.first.spots) (contains node_cmp l.whole.stood) n) (nowhere_told (get node_cmp l.whole.spots) (contains node_cmp l.first.stood) n) n) l.node-iterator
    ≡ filter_map (λ (n : NodeId). rest_loose true (nowhere_told (get node_cmp l.first.spots) (contains node_cmp l.whole.stood) n) (nowhere_told (get node_cmp l.whole.spots) (contains node_cmp l.first.stood) n) n) l.nodes.keys
