-- Worked cases of rows: ties, emptied anchors, empty cells, and what a change says of a row.
use Rattle.std.proofs.Common.{◌≡◌, true, List, [], ◌∷◌, Option, Some, None, refl}
use Rattle.st_ids.specs.Order.{same_node, same_cell}
use Rattle.st_ids.specs.declared.names.CellId.{CellId}
use Rattle.st_ids.specs.declared.names.NodeId.{NodeId}
use Rattle.st_marks.specs.declared.intents.Intent.{Intent}
use Rattle.st_marks.specs.declared.intents.To.{To}
use Rattle.st_marks.specs.declared.marks.How.TheVariants.{Stay, Here, Leave}
use Rattle.st_marks.specs.declared.marks.Mark.{Mark}
use Rattle.st_marks.specs.declared.marks.RowMarks.{RowMarks}
use Rattle.st_marks.specs.Document.{Document, content}
use Rattle.st_ids.specs.Root.{root}
use Rattle.st_marks.specs.CarryOut.{full}
use Rattle.st_marks.specs.Run.{run_whole}
use Rattle.st_marks.specs.Row.{embed_row}
use Rattle.st_marks.specs.Embedding.{is_among, row_part, row_marks, embed_loose}
use Rattle.st_marks.proofs.Worked.{node, cell, old, old_cell, rev, full_cell, empty, two, intent, inserts, removes, moves, puts, group}

abbrev after : Option CellId
after = Some (old_cell 0)

-- a tie: of two groups after one cell, that of the later commit stands left
tie : content (run_whole two (inserts 1 after ∷ inserts 2 after ∷ [])) root
    ≡ full_cell (old_cell 0) (old 1) ∷ full_cell (cell 2 1 0) (node 2 1 0) ∷ full_cell (cell 1 1 0) (node 1 1 0) ∷ full_cell (old_cell 1) (old 2) ∷ []
unfolding same_node same_cell
tie = refl

-- the order in which they come decides, not their names
tie_other_way : content (run_whole two (inserts 2 after ∷ inserts 1 after ∷ [])) root
    ≡ full_cell (old_cell 0) (old 1) ∷ full_cell (cell 1 1 0) (node 1 1 0) ∷ full_cell (cell 2 1 0) (node 2 1 0) ∷ full_cell (old_cell 1) (old 2) ∷ []
unfolding same_node same_cell
tie_other_way = refl

-- at the row's start too
tie_at_start : content (run_whole two (inserts 1 None ∷ inserts 2 None ∷ [])) root
    ≡ full_cell (cell 2 1 0) (node 2 1 0) ∷ full_cell (cell 1 1 0) (node 1 1 0) ∷ full_cell (old_cell 0) (old 1) ∷ full_cell (old_cell 1) (old 2) ∷ []
unfolding same_node same_cell
tie_at_start = refl

-- an emptied anchor: its cell stays, so what comes after it has its place
emptied_anchor : content (run_whole two (removes 1 (old 1) ∷ inserts 2 after ∷ [])) root
    ≡ empty (old_cell 0) (old 1) ∷ full_cell (cell 2 1 0) (node 2 1 0) ∷ full_cell (old_cell 1) (old 2) ∷ []
unfolding same_node same_cell
emptied_anchor = refl

-- the same where the removal comes second
emptied_later : content (run_whole two (inserts 2 after ∷ removes 1 (old 1) ∷ [])) root
    ≡ empty (old_cell 0) (old 1) ∷ full_cell (cell 2 1 0) (node 2 1 0) ∷ full_cell (old_cell 1) (old 2) ∷ []
unfolding same_node same_cell
emptied_later = refl

-- empty cells keep their order, and what is put back stands where it was
abbrev all_removed : Document
all_removed = run_whole two (inserts 1 after ∷ removes 2 (old 1) ∷ removes 3 (node 1 1 0) ∷ removes 4 (old 2) ∷ [])

order_of_empty_cells : content all_removed root ≡ empty (old_cell 0) (old 1) ∷ empty (cell 1 1 0) (node 1 1 0) ∷ empty (old_cell 1) (old 2) ∷ []
unfolding same_node same_cell
order_of_empty_cells = refl

abbrev restores : Intent
restores = intent (rev 5 1) [] [] [] (puts (node 1 1 0) (To.Cell (cell 1 1 0)) ∷ [])

put_back : content (full all_removed restores) root ≡ empty (old_cell 0) (old 1) ∷ full_cell (cell 1 1 0) (node 1 1 0) ∷ empty (old_cell 1) (old 2) ∷ []
unfolding same_node same_cell
put_back = refl

-- ## What a change says of a row

abbrev marks_in : Document → Intent → List NodeId → NodeId → Option RowMarks
marks_in D N mentioned n = row_marks n (embed_row (row_part (is_among mentioned) N n) (content D n))

-- putting back: the cell is filled, the others are gaps
marks_of_put_back : marks_in all_removed restores (root ∷ node 1 1 0 ∷ []) root
    ≡ Some (record { node = root; marks = Mark.Gap (old_cell 0) ∷ Mark.Fill (cell 1 1 0) (node 1 1 0) ∷ Mark.Gap (old_cell 1) ∷ [] })
unfolding same_node same_cell
marks_of_put_back = refl

-- and the node, which is nowhere, leaves that
loose_put_back : embed_loose (is_among (root ∷ node 1 1 0 ∷ [])) all_removed restores (node 1 1 0) ≡ Some (record { node = node 1 1 0; how = Leave })
unfolding same_node
loose_put_back = refl

-- inserting into the row of 0.0.2: the way down is touched, and other full cells are counted
abbrev below : Intent
below = intent (rev 1 1) (Rattle.st_marks.proofs.Worked.new (node 1 1 0) ∷ []) (group (old 2) None (cell 1 1 0) (node 1 1 0) ∷ []) [] (puts (node 1 1 0) (To.Cell (cell 1 1 0)) ∷ [])

way_down : marks_in two below (root ∷ old 2 ∷ []) root ≡ Some (record { node = root; marks = Mark.Skip 1 ∷ Mark.Touch (old_cell 1) (old 2) Stay ∷ [] })
unfolding same_node same_cell
way_down = refl

made_below : marks_in two below (root ∷ old 2 ∷ []) (old 2) ≡ Some (record { node = old 2; marks = Mark.Make (cell 1 1 0) (node 1 1 0) true ∷ [] })
unfolding same_node same_cell
made_below = refl

-- after another has moved 0.0.2 into the row of 0.0.1, the way down is another
way_down_after_move : marks_in (full two (moves 2 (old 2) (old 1))) below (root ∷ old 1 ∷ old 2 ∷ []) root
    ≡ Some (record { node = root; marks = Mark.Touch (old_cell 0) (old 1) Stay ∷ Mark.Gap (old_cell 1) ∷ [] })
unfolding same_node same_cell
way_down_after_move = refl

entered_after_move : marks_in (full two (moves 2 (old 2) (old 1))) below (root ∷ old 1 ∷ old 2 ∷ []) (old 1)
    ≡ Some (record { node = old 1; marks = Mark.Touch (cell 2 1 0) (old 2) Stay ∷ [] })
unfolding same_node same_cell
entered_after_move = refl

-- putting a node where it is, and elsewhere
marks_of_set : marks_in two (intent (rev 1 1) [] [] [] (puts (old 1) (To.Cell (old_cell 0)) ∷ [])) (root ∷ old 1 ∷ []) root
    ≡ Some (record { node = root; marks = Mark.Touch (old_cell 0) (old 1) Here ∷ Mark.Skip 1 ∷ [] })
unfolding same_node same_cell
marks_of_set = refl

marks_of_out : marks_in two (removes 1 (old 1)) (root ∷ old 1 ∷ []) root
    ≡ Some (record { node = root; marks = Mark.Touch (old_cell 0) (old 1) Leave ∷ Mark.Skip 1 ∷ [] })
unfolding same_node same_cell
marks_of_out = refl
