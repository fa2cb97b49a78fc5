use Rattle.std.proofs.Common.{◌≡◌, ◌||◌, take}
use Rattle.st_ids.specs.Listing.{IsRising}
use Rattle.st_ids.specs.Order.{node_cmp}
use Rattle.st_ids.specs.declared.names.NodeId.{NodeId}
use Rattle.st_marks.specs.Embedding.{is_among}
use Rattle.st_seq.proofs.new_nodes.merged_names.Given as goal

abbrev pub invariant-nodes : goal.invariant-nodes
invariant-nodes l =
    IsRising node_cmp (λ (x : NodeId). x) l.first → IsRising node_cmp (λ (x : NodeId). x) l.all × ((n : NodeId) → is_among l.all n ≡ (is_among l.first n || is_among (take l.node-index l.node-items) n))
