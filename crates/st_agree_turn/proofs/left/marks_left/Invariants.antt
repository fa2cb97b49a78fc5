use Rattle.std.proofs.Common.{◌≡◌, map, take}
use Rattle.st_agree_turn.specs.inside.Left.{left_mark}
use Rattle.st_agree_turn.proofs.left.marks_left.Given as goal

abbrev pub invariant-loop-mark : goal.invariant-loop-mark
invariant-loop-mark l = l.list ≡ map left_mark (take l.mark-index l.marks)
