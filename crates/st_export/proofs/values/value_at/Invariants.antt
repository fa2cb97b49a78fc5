use Rattle.std.proofs.Common.{◌≤◌, take, length}
use Rattle.st_doc.specs.LiveText.{is_among}
use Rattle.st_export.proofs.Made.{AreMade}
use Rattle.st_export.proofs.values.value_at.Given as goal

abbrev pub invariant-loop-left : goal.invariant-loop-left
invariant-loop-left l = record {
  within : l.left ≤ length l.order.items;
  made : AreMade (is_among l.arrays) l.forest l.fn.node (take l.left l.order.items) l.values.items;
}

abbrev pub decreases-loop-left : goal.decreases-loop-left
decreases-loop-left l = l.left
