use Rattle.std.proofs.Common.{◌≡◌, drop, false}
use Rattle.st_normal.proofs.Merged.{is_merged}
use Rattle.st_normal.proofs.row_rules.is_merged.Given as goal

abbrev pub invariant-loop-mark : goal.invariant-loop-mark
invariant-loop-mark l = is_merged l.behind_skip (drop l.mark-index l.marks) ≡ is_merged false l.marks
