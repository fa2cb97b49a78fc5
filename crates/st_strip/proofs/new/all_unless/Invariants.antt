use Rattle.std.proofs.Common.{◌≡◌, take}
use Rattle.std.specs.BTreeSet.{contains}
use Rattle.std.specs.List.{filter_map}
use Rattle.st_ids.specs.Order.{node_cmp}
use Rattle.st_strip.specs.inside.Told.{unless_made}
use Rattle.st_strip.proofs.new.all_unless.Given as goal

abbrev pub invariant-loop-node : goal.invariant-loop-node
invariant-loop-node l = l.list ≡ filter_map (unless_made (contains node_cmp l.made)) (take l.node-index l.nodes)
