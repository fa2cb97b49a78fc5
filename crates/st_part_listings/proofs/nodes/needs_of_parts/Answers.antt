use Rattle.std.proofs.Common.{refl, ◌∙◌}
use Rattle.std.specs.BTreeSet.{contains}
use Rattle.std.specs.List.{filter_map}
use Rattle.st_ids.specs.Order.{node_cmp}
use Rattle.st_ids.specs.declared.names.NodeId.{NodeId}
use Rattle.st_part_listings.specs.Together.{unless_new}
use Rattle.st_part_listings.proofs.MapListings.{listed_along}
use Rattle.st_part_listings.proofs.nodes.needs_of_parts.Goals as goal

pub returns : goal.returns
returns c =
    listed_along node_cmp (λ (n : NodeId). n) c.union.result c.args.first.now c.as_slice.result.now c.args.first.now (filter_map (unless_new (contains node_cmp c.args.new.now)) c.args.second.now)
    refl (c.as_slice.ensures ∙ c.in_ok-old.ensures) c.union.ensures
