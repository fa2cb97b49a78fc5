use Rattle.std.proofs.Common.{◌≡◌, take}
use Rattle.std.specs.BTreeSet.{contains}
use Rattle.st_ids.specs.Order.{cell_cmp, node_cmp}
use Rattle.st_turn_names.specs.inside.Early.{early_in}
use Rattle.st_turn_names.proofs.owners.early_in_rows.Given as goal

abbrev pub invariant-loop-row : goal.invariant-loop-row
invariant-loop-row l = l.list ≡ early_in (contains node_cmp l.made.nodes) (contains cell_cmp l.made.cells) (take l.row-index l.rows)
