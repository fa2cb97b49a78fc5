use Rattle.std.proofs.Common.{take}
use Rattle.std.specs.BTreeMap.{get}
use Rattle.st_ids.specs.Order.{node_cmp}
use Rattle.st_ids.proofs.Orders.{node_cmp_total}
use Rattle.st_ids.specs.declared.names.NodeId.{NodeId}
use Rattle.st_marks.specs.declared.marks.RowMarks.{RowMarks}
use Rattle.st_moves.proofs.Indices.{IsIndexed}
use Rattle.st_moves.proofs.index.index_rows.Given as goal

abbrev pub invariant-loop-at : goal.invariant-loop-at
invariant-loop-at l = (k : NodeId) → IsIndexed node_cmp node_cmp_total (λ (r : RowMarks). r.node) l.items (take l.at l.items) k (get node_cmp l.index k)
