use Rattle.std.proofs.Common.{take}
use Rattle.std.specs.BTreeSet.{contains}
use Rattle.st_ids.specs.Order.{node_cmp}
use Rattle.st_rebase.specs.inside.Room.{AreRowsOver}
use Rattle.st_rebase.proofs.rows.rows_over.Given as goal

abbrev pub invariant-loop-row : goal.invariant-loop-row
invariant-loop-row l = AreRowsOver (contains node_cmp l.named) l.step (take l.row-index l.rows) l.over
