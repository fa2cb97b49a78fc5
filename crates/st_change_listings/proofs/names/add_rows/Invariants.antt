use Rattle.std.proofs.Common.{◌≡◌, ◌||◌, take}
use Rattle.std.specs.BTreeSet.{contains}
use Rattle.std.specs.List.{flat_map}
use Rattle.st_ids.specs.Order.{node_cmp}
use Rattle.st_ids.specs.declared.names.NodeId.{NodeId}
use Rattle.st_marks.specs.Embedding.{is_among}
use Rattle.st_puts.specs.inside.Names.{row_names}
use Rattle.st_change_listings.proofs.names.add_rows.Given as goal

abbrev pub invariant-loop-row : goal.invariant-loop-row
invariant-loop-row l = (n : NodeId) → contains node_cmp l.set n ≡ (contains node_cmp l.initial.set n || is_among (flat_map row_names (take l.row-index l.rows)) n)
