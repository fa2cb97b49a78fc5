use Rattle.std.proofs.Common.{◌≡◌, ◌++◌}
use Rattle.std.specs.BTreeMap.{get}
use Rattle.std.specs.List.{filter_map}
use Rattle.st_ids.specs.Order.{node_cmp}
use Rattle.st_puts.specs.Mentions.{place_in}
use Rattle.st_moves.specs.inside.Registers.{loose_in}
use Rattle.st_over.proofs.loose.loose_nodes.Given as goal

-- what is listed, and what is left to be gone through
abbrev pub invariant-loop-node : goal.invariant-loop-node
invariant-loop-node l = l.list ++ filter_map (loose_in (get node_cmp l.puts) (place_in l.places)) l.node-iterator ≡ filter_map (loose_in (get node_cmp l.puts) (place_in l.places)) l.named.keys
