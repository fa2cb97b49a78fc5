-- A row of a change beside that of a step, each of them listed or not.
use Rattle.std.specs.Prelude.{Bool, List, [], ◌∷◌, Option, Some, None, is_some, if◌then◌else◌}
use Rattle.std.specs.List.{flat_map, list_any}
use Rattle.st_ids.specs.Listing.{item_of}
use Rattle.st_ids.specs.Order.{node_cmp}
use Rattle.st_ids.specs.declared.names.NodeId.{NodeId}
use Rattle.st_marks.specs.declared.intents.To.{To}
use Rattle.st_marks.specs.declared.marks.Mark.{Mark}
use Rattle.st_marks.specs.declared.marks.RowMarks.{RowMarks}
use Rattle.st_marks.specs.Embedding.{row_marks, tells}
use Rattle.st_marks.specs.Listings.{cells_before}
use Rattle.st_marks.specs.Row.{CellMark, Counted, Gap, Touch, Make, Fill, spread}
use Rattle.st_rows.specs.Differences.{first_difference}
use Rattle.st_moves.specs.Carried.{carry_row}

-- what is said of a cell that both sides find, with no node told
abbrev pub bare_cell : CellMark → List CellMark
bare_cell Counted = Counted ∷ []
bare_cell (Gap c) = Gap c ∷ []
bare_cell (Touch c n h) = Counted ∷ []
bare_cell (Make c n b) = []
bare_cell (Fill c n) = Gap c ∷ []

-- the same of a row: how it is listed by a side that tells nothing there
abbrev pub bare : List CellMark → List CellMark
bare = flat_map bare_cell

-- a row, if its marks tell something
abbrev pub listed_row : NodeId → List Mark → Option RowMarks
listed_row n ms = if list_any tells (spread ms) then Some (record { node = n; marks = ms }) else None

-- a row that both list; it stays as it is where the two don't find the same
abbrev pub row_both : (NodeId → Option To) → (NodeId → Bool) → NodeId → List Mark → List Mark → Option RowMarks
row_both target_of m n c s =
    if is_some (first_difference (cells_before (spread c)) (cells_before (spread s)))
    then listed_row n c
    else row_marks n (carry_row target_of m (spread c) (spread s))

-- a row that only the change lists
abbrev pub row_first : (NodeId → Option To) → (NodeId → Bool) → NodeId → List CellMark → Option RowMarks
row_first target_of m n xs = row_marks n (carry_row target_of m xs (bare xs))

-- a row that only the step lists
abbrev pub row_then : (NodeId → Option To) → (NodeId → Bool) → NodeId → List CellMark → Option RowMarks
row_then target_of m n ys = row_marks n (carry_row target_of m (bare ys) ys)

-- one of these
abbrev pub row_listed : (NodeId → Option To) → (NodeId → Bool) → NodeId → Option RowMarks → Option RowMarks → Option RowMarks
row_listed target_of m n None None = None
row_listed target_of m n (Some c) None = row_first target_of m n (spread c.marks)
row_listed target_of m n None (Some s) = row_then target_of m n (spread s.marks)
row_listed target_of m n (Some c) (Some s) = row_both target_of m n c.marks s.marks

-- the row of a node
abbrev pub row_beside : (NodeId → Option To) → (NodeId → Bool) → List RowMarks → List RowMarks → NodeId → Option RowMarks
row_beside target_of m cs ss n = row_listed target_of m n (item_of node_cmp (λ (r : RowMarks). r.node) cs n) (item_of node_cmp (λ (r : RowMarks). r.node) ss n)
