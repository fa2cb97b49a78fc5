use Rattle.std.specs.BTreeSet.{contains}
use Rattle.st_ids.specs.Order.{node_cmp}
use Rattle.st_trim.proofs.WrittenMarks.{IsWritten}
use Rattle.st_trim.proofs.rows.trim_marks.Given as goal

abbrev pub invariant-loop-mark : goal.invariant-loop-mark
invariant-loop-mark l = IsWritten (contains node_cmp l.named) l.marks l.mark-index l.out l.count
