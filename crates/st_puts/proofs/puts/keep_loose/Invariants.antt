use Rattle.std.proofs.Common.{◌≡◌, take}
use Rattle.std.specs.BTreeMap.{get}
use Rattle.std.specs.List.{flat_map}
use Rattle.std.specs.Option.{option_or}
use Rattle.st_ids.specs.Order.{node_cmp}
use Rattle.st_ids.specs.declared.names.NodeId.{NodeId}
use Rattle.st_puts.specs.inside.First.{first_at}
use Rattle.st_puts.specs.inside.Puts.{loose_put}
use Rattle.st_puts.proofs.puts.keep_loose.Given as goal

abbrev pub invariant-loop-one : goal.invariant-loop-one
invariant-loop-one l = (n : NodeId) → get node_cmp l.puts n ≡ option_or (get node_cmp l.initial.puts n) (first_at (flat_map loose_put (take l.one-index l.loose)) n)
