use Rattle.std.proofs.Common.{◌≡◌, take}
use Rattle.std.specs.BTreeMap.{get}
use Rattle.std.specs.List.{flat_map}
use Rattle.std.specs.Option.{option_or}
use Rattle.st_ids.specs.Order.{node_cmp}
use Rattle.st_ids.specs.declared.names.NodeId.{NodeId}
use Rattle.st_puts.specs.inside.First.{first_at}
use Rattle.st_puts.specs.inside.Puts.{fate_by}
use Rattle.st_puts.proofs.puts.keep_row.Given as goal

abbrev pub invariant-loop-mark : goal.invariant-loop-mark
invariant-loop-mark l = (n : NodeId) → get node_cmp l.puts n ≡ option_or (get node_cmp l.initial.puts n) (first_at (flat_map (fate_by l.fate) (take l.mark-index l.marks)) n)
