-- The rows of a step over a void commit, row by row.
use Rattle.std.specs.Prelude.{List, Option}
use Rattle.st_ids.specs.Listing.{item_of}
use Rattle.st_ids.specs.Order.{node_cmp}
use Rattle.st_marks.specs.declared.marks.RowMarks.{RowMarks}
use Rattle.st_steps.specs.Across.{row_across}

-- a row that the step lists, by what both list of its node
abbrev pub row_walked : List RowMarks → List RowMarks → RowMarks → Option RowMarks
row_walked cs ss r = row_across r.node (item_of node_cmp (λ (q : RowMarks). q.node) cs r.node) (item_of node_cmp (λ (q : RowMarks). q.node) ss r.node)
