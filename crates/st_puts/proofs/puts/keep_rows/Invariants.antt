use Rattle.std.proofs.Common.{◌≡◌, take}
use Rattle.std.specs.BTreeMap.{get}
use Rattle.std.specs.List.{flat_map}
use Rattle.std.specs.Option.{option_or}
use Rattle.st_ids.specs.Order.{node_cmp}
use Rattle.st_ids.specs.declared.names.NodeId.{NodeId}
use Rattle.st_puts.specs.inside.First.{first_at}
use Rattle.st_puts.specs.inside.Puts.{row_fate}
use Rattle.st_puts.proofs.puts.keep_rows.Given as goal

abbrev pub invariant-loop-row : goal.invariant-loop-row
invariant-loop-row l = (n : NodeId) → get node_cmp l.puts n ≡ option_or (get node_cmp l.initial.puts n) (first_at (flat_map (row_fate l.fate) (take l.row-index l.rows)) n)
