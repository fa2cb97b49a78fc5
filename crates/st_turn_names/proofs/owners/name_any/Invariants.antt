use Rattle.std.proofs.Common.{◌≡◌, false, take}
use Rattle.std.specs.BTreeSet.{contains}
use Rattle.std.specs.List.{flat_map, list_any}
use Rattle.st_ids.specs.Order.{cell_cmp}
use Rattle.st_clash.specs.inside.Made.{cell_of_mark}
use Rattle.st_turn_names.proofs.owners.name_any.Given as goal

abbrev pub invariant-loop-mark : goal.invariant-loop-mark
invariant-loop-mark l = list_any (contains cell_cmp l.set) (flat_map cell_of_mark (take l.mark-index l.marks)) ≡ false
