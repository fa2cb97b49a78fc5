use Rattle.std.proofs.Common.{◌≡◌, take}
use Rattle.std.specs.BTreeSet.{contains}
use Rattle.std.specs.List.{filter_map}
use Rattle.st_ids.specs.Order.{node_cmp}
use Rattle.st_part_listings.specs.Together.{unless_new}
use Rattle.st_part_listings.proofs.nodes.old_needs.Given as goal

abbrev pub invariant-loop-node : goal.invariant-loop-node
invariant-loop-node l = l.list ≡ filter_map (unless_new (contains node_cmp l.new)) (take l.node-index l.need)
