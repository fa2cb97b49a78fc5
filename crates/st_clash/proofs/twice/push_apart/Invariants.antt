use Rattle.std.proofs.Common.{◌≡◌, ◌++◌, take}
use Rattle.std.specs.BTreeMap.{get}
use Rattle.std.specs.List.{flat_map}
use Rattle.st_ids.specs.Order.{cell_cmp}
use Rattle.st_clash.specs.inside.Seen.{apart_cell}
use Rattle.st_clash.proofs.twice.push_apart.Given as goal

abbrev pub invariant-loop-seen : goal.invariant-loop-seen
invariant-loop-seen l = l.bad ≡ l.initial.bad ++ flat_map (apart_cell (get cell_cmp l.table)) (take l.seen-index l.list)
