use Rattle.std.proofs.Common.{◌≡◌, map, take}
use Rattle.std.specs.BTreeSet.{contains}
use Rattle.st_ids.specs.Order.{node_cmp}
use Rattle.st_revert.specs.inside.Made.{mark_made}
use Rattle.st_revert.proofs.making.marks_made.Given as goal

abbrev pub invariant-loop-mark : goal.invariant-loop-mark
invariant-loop-mark l = l.list ≡ map (mark_made (contains node_cmp l.new) l.in_new) (take l.mark-index l.marks)
