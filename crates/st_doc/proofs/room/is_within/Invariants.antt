use Rattle.std.proofs.Common.{drop, ◌≡◌, nat_le, length}
use Rattle.st_marks.specs.CarryOut.{with_groups}
use Rattle.st_doc.proofs.room.is_within.Given as goal

abbrev pub invariant-loop-owned : goal.invariant-loop-owned
invariant-loop-owned l = nat_le (length (with_groups l.intent l.node (drop l.owned-index l.row))) l.left ≡ nat_le (length (with_groups l.intent l.node l.row)) l.most
