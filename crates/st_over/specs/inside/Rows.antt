-- A row of a change over that of a step, each of them listed or not.
use Rattle.std.specs.Prelude.{Bool, List, Option, Some, None}
use Rattle.st_ids.specs.Listing.{item_of}
use Rattle.st_ids.specs.Order.{node_cmp}
use Rattle.st_ids.specs.declared.names.NodeId.{NodeId}
use Rattle.st_kind.specs.Named.{Nodes}
use Rattle.st_marks.specs.declared.intents.To.{To}
use Rattle.st_marks.specs.declared.marks.RowMarks.{RowMarks}
use Rattle.st_marks.specs.Embedding.{row_marks}
use Rattle.st_marks.specs.Row.{CellMark, spread}
use Rattle.st_moves.specs.inside.Rows.{bare}
use Rattle.st_reading.specs.Over.{over_row}

-- a row that both list
abbrev pub row_both : Bool → (NodeId → Option To) → Nodes → NodeId → List CellMark → List CellMark → Option RowMarks
row_both l target_of m n xs ys = row_marks n (over_row l target_of m xs ys)

-- a row that only the change lists
abbrev pub row_first : Bool → (NodeId → Option To) → Nodes → NodeId → List CellMark → Option RowMarks
row_first l target_of m n xs = row_both l target_of m n xs (bare xs)

-- a row that only the step lists
abbrev pub row_then : Bool → (NodeId → Option To) → Nodes → NodeId → List CellMark → Option RowMarks
row_then l target_of m n ys = row_both l target_of m n (bare ys) ys

-- one of these
abbrev pub row_listed : Bool → (NodeId → Option To) → Nodes → NodeId → Option RowMarks → Option RowMarks → Option RowMarks
row_listed l target_of m n None None = None
row_listed l target_of m n (Some c) None = row_first l target_of m n (spread c.marks)
row_listed l target_of m n None (Some s) = row_then l target_of m n (spread s.marks)
row_listed l target_of m n (Some c) (Some s) = row_both l target_of m n (spread c.marks) (spread s.marks)

-- the row of a node
abbrev pub row_beside : Bool → (NodeId → Option To) → Nodes → List RowMarks → List RowMarks → NodeId → Option RowMarks
row_beside l target_of m cs ss n = row_listed l target_of m n (item_of node_cmp (λ (r : RowMarks). r.node) cs n) (item_of node_cmp (λ (r : RowMarks). r.node) ss n)
