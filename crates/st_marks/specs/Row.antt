-- One row: what the marks of a step and of a change say of it, cell by cell.
use Rattle.std.specs.Prelude.{◌≡◌, ℕ, zero, suc, Bool, true, false, List, [], ◌∷◌, ◌++◌, Option, Some, None, if◌then◌else◌}
use Rattle.st_ids.specs.Order.{same_cell, same_field}
use Rattle.st_ids.specs.declared.names.CellId.{CellId}
use Rattle.st_ids.specs.declared.names.NodeId.{NodeId}
use Rattle.st_marks.specs.declared.intents.Owned.{Owned}
use Rattle.st_marks.specs.declared.intents.To.{To}
use Rattle.st_marks.specs.declared.marks.How.{How}
use Rattle.st_marks.specs.declared.marks.How.TheVariants.{Stay, Here, Leave}
use Rattle.st_marks.specs.declared.marks.Mark.{Mark}
use Rattle.st_marks.specs.declared.places.Slot.{Slot}
use Rattle.st_marks.specs.Extends.{GainsItems, no_more, item_gained, item_kept}
use Rattle.st_marks.specs.How.{is_here}

-- ## Marks, cell by cell

-- what a listing says of one cell; `Counted` is one cell of a Skip
pub data CellMark : Type 0 where
  Counted : CellMark
  Gap : CellId → CellMark
  Touch : CellId → NodeId → How → CellMark
  Make : CellId → NodeId → Bool → CellMark
  Fill : CellId → NodeId → CellMark

-- so many counted cells before others
abbrev pub counted_cells : ℕ → List CellMark → List CellMark
counted_cells zero ms = ms
counted_cells (suc k) ms = Counted ∷ counted_cells k ms

-- the marks of a row, cell by cell
abbrev pub spread : List Mark → List CellMark
spread [] = []
spread (Mark.Skip k ∷ ms) = counted_cells k (spread ms)
spread (Mark.Gap c ∷ ms) = Gap c ∷ spread ms
spread (Mark.Touch c n h ∷ ms) = Touch c n h ∷ spread ms
spread (Mark.Make c n b ∷ ms) = Make c n b ∷ spread ms
spread (Mark.Fill c n ∷ ms) = Fill c n ∷ spread ms

-- one counted cell before marks
abbrev pub skip_one : List Mark → List Mark
skip_one [] = Mark.Skip 1 ∷ []
skip_one (Mark.Skip k ∷ ms) = Mark.Skip (suc k) ∷ ms
skip_one (Mark.Gap c ∷ ms) = Mark.Skip 1 ∷ (Mark.Gap c ∷ ms)
skip_one (Mark.Touch c n h ∷ ms) = Mark.Skip 1 ∷ (Mark.Touch c n h ∷ ms)
skip_one (Mark.Make c n b ∷ ms) = Mark.Skip 1 ∷ (Mark.Make c n b ∷ ms)
skip_one (Mark.Fill c n ∷ ms) = Mark.Skip 1 ∷ (Mark.Fill c n ∷ ms)

-- the marks that say this of the cells: counted neighbours are one Skip
abbrev pub merge : List CellMark → List Mark
merge [] = []
merge (Counted ∷ ms) = skip_one (merge ms)
merge (Gap c ∷ ms) = Mark.Gap c ∷ merge ms
merge (Touch c n h ∷ ms) = Mark.Touch c n h ∷ merge ms
merge (Make c n b ∷ ms) = Mark.Make c n b ∷ merge ms
merge (Fill c n ∷ ms) = Mark.Fill c n ∷ merge ms

-- ## A row over a step

-- one cell of one owner, full or not
abbrev pub SameCell : Slot → Slot → Type 0
SameCell s t = (s.cell ≡ t.cell) × (s.node ≡ t.node)

-- a cell that is there before and after, by whether it is full before and whether it is full after
abbrev pub step_cell : (NodeId → Bool) → CellId → NodeId → Bool → Bool → CellMark
step_cell mentioned c n true true = if mentioned n then Touch c n Stay else Counted
step_cell mentioned c n true false = Touch c n Leave
step_cell mentioned c n false true = Fill c n
step_cell mentioned c n false false = Gap c

-- the row c, which grew to d
abbrev pub step_row : (NodeId → Bool) → {c d : List Slot} → GainsItems SameCell c d → List CellMark
step_row mentioned no_more = []
step_row mentioned (item_gained {y} g) = Make y.cell y.node y.full ∷ step_row mentioned g
step_row mentioned (item_kept {x} {y} same g) = step_cell mentioned x.cell x.node x.full y.full ∷ step_row mentioned g

-- ## A row and an intent

-- whether two puts lead to one place
abbrev pub same_to : To → To → Bool
same_to To.Nowhere To.Nowhere = true
same_to To.Nowhere (To.Cell d) = false
same_to To.Nowhere (To.Register g) = false
same_to (To.Cell c) To.Nowhere = false
same_to (To.Cell c) (To.Cell d) = same_cell c d
same_to (To.Cell c) (To.Register g) = false
same_to (To.Register f) To.Nowhere = false
same_to (To.Register f) (To.Cell d) = false
same_to (To.Register f) (To.Register g) = same_field f g

-- what becomes of a node where it stands: it stays if it isn't put, is set here if it is put right there, and else leaves
abbrev pub how : Option To → To → How
how None here = Stay
how (Some to) here = if same_to to here then Here else Leave

-- the part of an intent that concerns one row
pub record RowPart : Type 0 where
  -- the cells that it makes at the row's start (None) or after a cell
  pub new_cells : Option CellId → List Owned
  -- where it puts a node
  pub target_of : NodeId → Option To
  pub mentioned : NodeId → Bool

-- a cell that it finds, full or not
abbrev pub embed_cell : RowPart → CellId → NodeId → Bool → CellMark
embed_cell p c n true = if p.mentioned n then Touch c n (how (p.target_of n) (To.Cell c)) else Counted
embed_cell p c n false = if is_here (how (p.target_of n) (To.Cell c)) then Fill c n else Gap c

-- the cells that it makes
abbrev pub embed_made : RowPart → List Owned → List CellMark
embed_made p [] = []
embed_made p (o ∷ os) = Make o.cell o.node (is_here (how (p.target_of o.node) (To.Cell o.cell))) ∷ embed_made p os

-- the cells that it finds, each with the group after it
abbrev pub embed_cells : RowPart → List Slot → List CellMark
embed_cells p [] = []
embed_cells p (s ∷ c) = embed_cell p s.cell s.node s.full ∷ (embed_made p (p.new_cells (Some s.cell)) ++ embed_cells p c)

-- the whole row
abbrev pub embed_row : RowPart → List Slot → List CellMark
embed_row p c = embed_made p (p.new_cells None) ++ embed_cells p c
