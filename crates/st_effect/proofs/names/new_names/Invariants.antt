use Rattle.std.proofs.Common.{◌≡◌, take}
use Rattle.st_ids.specs.Listing.{IsRising}
use Rattle.st_ids.specs.Order.{node_cmp}
use Rattle.st_ids.specs.declared.names.NodeId.{NodeId}
use Rattle.st_marks.specs.Embedding.{is_among}
use Rattle.st_marks.specs.Listings.{nodes_new}
use Rattle.st_effect.proofs.names.new_names.Given as goal

abbrev pub invariant-nodes : goal.invariant-nodes
invariant-nodes l = record {
  rising : IsRising node_cmp (λ (n : NodeId). n) l.names;
  each : (n : NodeId) → is_among l.names n ≡ is_among (nodes_new (take l.one-index l.new)) n;
}
