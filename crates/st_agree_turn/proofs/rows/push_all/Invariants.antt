use Rattle.std.proofs.Common.{◌≡◌, ◌++◌, take}
use Rattle.std.specs.BTreeSet.{contains}
use Rattle.std.specs.List.{flat_map}
use Rattle.st_ids.specs.Order.{node_cmp}
use Rattle.st_agree_turn.specs.inside.Rows.{row_apart}
use Rattle.st_agree_turn.proofs.rows.push_all.Given as goal

abbrev pub invariant-loop-row : goal.invariant-loop-row
invariant-loop-row l = l.found ≡ l.initial.found ++ flat_map (row_apart l.left.rows.now (contains node_cmp l.left.made.now)) (take l.row-index l.rows)
