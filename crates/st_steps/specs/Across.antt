-- A step where it stands after a void commit.
use Rattle.std.specs.Prelude.{◌≡◌, List, map, Option, Some, None}
use Rattle.st_ids.specs.Listing.{IsListing, item_of}
use Rattle.st_ids.specs.Order.{node_cmp}
use Rattle.st_ids.specs.declared.names.NodeId.{NodeId}
use Rattle.st_marks.specs.declared.changes.Change.{Change}
use Rattle.st_marks.specs.declared.marks.RowMarks.{RowMarks}
use Rattle.st_marks.specs.declared.steps.Step.{Step}
use Rattle.st_marks.specs.Row.{CellMark, Counted, Gap, Touch, Make, Fill, merge, spread}
use Rattle.st_rows.specs.Walks.{CellPiece, Both, First, Then, beside}

-- a cell that a void commit made is there, and empty
abbrev pub hole_piece : CellPiece → CellMark
hole_piece (Both x y) = y
hole_piece (First (Make c n b)) = Gap c
hole_piece (First Counted) = Counted
hole_piece (First (Gap c)) = Gap c
hole_piece (First (Touch c n h)) = Touch c n h
hole_piece (First (Fill c n)) = Fill c n
hole_piece (Then y) = y

-- the marks of a step, with an empty cell for each that the change makes
abbrev pub with_holes : List CellMark → List CellMark → List CellMark
with_holes xs ys = map hole_piece (beside xs ys)

-- the row of a node: as the step has it, with the change's cells if the change lists the row
abbrev pub row_across : NodeId → Option RowMarks → Option RowMarks → Option RowMarks
row_across n c None = None
row_across n None (Some s) = Some s
row_across n (Some c) (Some s) = Some (record { node = n; marks = merge (with_holes (spread c.marks) (spread s.marks)) })

-- G says what the step says, where the commit of the change is void before and after it
pub record IsAcross (C : Change) (S G : Step) : Type 0 where
  pub schema : G.schema ≡ S.schema
  pub new_nodes : G.new ≡ S.new
  pub rows : IsListing node_cmp (λ (r : RowMarks). r.node) G.rows (λ n. row_across n (item_of node_cmp (λ (r : RowMarks). r.node) C.rows n) (item_of node_cmp (λ (r : RowMarks). r.node) S.rows n))
  pub regs : G.regs ≡ S.regs
  pub loose : G.loose ≡ S.loose
