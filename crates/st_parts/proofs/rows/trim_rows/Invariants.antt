use Rattle.std.proofs.Common.{◌≡◌, take}
use Rattle.std.specs.BTreeSet.{contains}
use Rattle.std.specs.List.{filter_map}
use Rattle.st_ids.specs.Order.{node_cmp}
use Rattle.st_trim.specs.inside.Cut.{cut_row}
use Rattle.st_parts.proofs.rows.trim_rows.Given as goal

abbrev pub invariant-loop-row : goal.invariant-loop-row
invariant-loop-row l = l.trimmed ≡ filter_map (cut_row (contains node_cmp l.named)) (take l.row-index l.rows)
