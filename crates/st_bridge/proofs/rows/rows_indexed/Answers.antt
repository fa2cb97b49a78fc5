use Rattle.std.proofs.Common.{List, subst}
use Rattle.st_ids.specs.Order.{node_cmp}
use Rattle.st_marks.specs.declared.marks.RowMarks.{RowMarks}
use Rattle.st_moves.specs.Index.{IsIndex}
use Rattle.st_bridge.proofs.rows.rows_indexed.Goals as goal

pub returns-clause-index : goal.returns-clause-index
returns-clause-index c = subst (λ (l : List RowMarks). IsIndex node_cmp (λ (r : RowMarks). r.node) l c.in_ok-index.index) c.as_slice.ensures c.in_ok-index.ensures
