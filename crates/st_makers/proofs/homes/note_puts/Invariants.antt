use Rattle.std.proofs.Common.{◌≡◌, ◌≤◌, drop, length}
use Rattle.std.specs.BTreeMap.{get}
use Rattle.st_ids.specs.Order.{node_cmp}
use Rattle.st_ids.specs.declared.names.NodeId.{NodeId as Node}
use Rattle.st_makers.specs.inside.Homes.{home_after}
use Rattle.st_makers.proofs.homes.note_puts.Given as goal

-- what the last puts say is said
abbrev pub invariant-puts : goal.invariant-puts
invariant-puts l = record {
  within : l.left ≤ length l.puts;
  said : (n : Node) → get node_cmp l.homes n ≡ home_after l.intent.rev (drop l.left l.puts) (get node_cmp l.initial.homes n) n;
}

abbrev pub decreases-puts : goal.decreases-puts
decreases-puts l = l.left
