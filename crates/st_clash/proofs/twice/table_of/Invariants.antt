use Rattle.std.proofs.Common.{take}
use Rattle.std.specs.BTreeMap.{get}
use Rattle.st_ids.specs.Order.{cell_cmp}
use Rattle.st_clash.specs.inside.Seen.{IsTable}
use Rattle.st_clash.proofs.twice.table_of.Given as goal

abbrev pub invariant-loop-seen : goal.invariant-loop-seen
invariant-loop-seen l = IsTable (take l.seen-index l.list) (get cell_cmp l.table)
