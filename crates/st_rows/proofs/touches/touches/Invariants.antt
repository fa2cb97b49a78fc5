use Rattle.std.proofs.Common.{◌≡◌, take}
use Rattle.std.specs.BTreeMap.{get}
use Rattle.st_ids.specs.Order.{node_cmp}
use Rattle.st_ids.specs.declared.names.NodeId.{NodeId}
use Rattle.st_marks.specs.Row.{spread}
use Rattle.st_rows.specs.Cells.{touch_of}
use Rattle.st_rows.proofs.touches.touches.Given as goal

abbrev pub invariant-loop-mark : goal.invariant-loop-mark
invariant-loop-mark l = (n : NodeId) → get node_cmp l.map n ≡ touch_of (spread (take l.mark-index l.marks)) n
