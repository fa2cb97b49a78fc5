use Rattle.std.proofs.Common.{◌≡◌, ◌++◌, take}
use Rattle.std.specs.BTreeSet.{contains}
use Rattle.std.specs.List.{flat_map}
use Rattle.st_ids.specs.Order.{cell_cmp}
use Rattle.st_clash.specs.inside.Bad.{row_naming}
use Rattle.st_turn_names.proofs.owners.push_naming.Given as goal

abbrev pub invariant-loop-row : goal.invariant-loop-row
invariant-loop-row l = l.found ≡ l.initial.found ++ flat_map (row_naming (contains cell_cmp l.set)) (take l.row-index l.rows)
