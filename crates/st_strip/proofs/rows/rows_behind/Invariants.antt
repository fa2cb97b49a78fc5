use Rattle.std.proofs.Common.{◌≡◌, map, take}
use Rattle.st_ids.specs.Listing.{item_of}
use Rattle.st_ids.specs.Order.{node_cmp}
use Rattle.st_marks.specs.declared.marks.RowMarks.{RowMarks}
use Rattle.st_strip.specs.inside.Told.{row_behind}
use Rattle.st_strip.proofs.rows.rows_behind.Given as goal

abbrev pub invariant-loop-row : goal.invariant-loop-row
invariant-loop-row l = l.rows ≡ map (λ (r : RowMarks). row_behind (item_of node_cmp (λ (q : RowMarks). q.node) l.first r.node) r) (take l.row-index l.whole)
