-- Marks that are written one after another.
use Rattle.std.specs.Prelude.{ℕ, suc, ◌≤◌, Bool, true, false, List, [], ◌∷◌, ◌++◌, Option, Some, None}
use Rattle.std.specs.List.{AllByRecursion}
use Rattle.st_marks.specs.declared.intents.Owned.{Owned}
use Rattle.st_marks.specs.declared.intents.To.{To}
use Rattle.st_marks.specs.declared.marks.Mark.{Mark}
use Rattle.st_marks.specs.How.{is_here}
use Rattle.st_marks.specs.Row.{CellMark, Counted, Fill, Gap, Make, RowPart, Touch, embed_cell, how}
use Rattle.st_ids.specs.declared.names.NodeId.{NodeId}
use Rattle.st_marks.specs.Document.{Document, is_cell}

-- the mark of a cell that isn't counted
abbrev pub mark_of : CellMark → Option Mark
mark_of Counted = None
mark_of (Gap c) = Some (Mark.Gap c)
mark_of (Touch c n h) = Some (Mark.Touch c n h)
mark_of (Make c n b) = Some (Mark.Make c n b)
mark_of (Fill c n) = Some (Mark.Fill c n)

-- marks with one more counted cell behind them
abbrev pub with_count : List Mark → List Mark
with_count [] = Mark.Skip 1 ∷ []
with_count (Mark.Skip k ∷ []) = Mark.Skip (suc k) ∷ []
with_count (Mark.Skip k ∷ (m ∷ ms)) = Mark.Skip k ∷ with_count (m ∷ ms)
with_count (Mark.Gap c ∷ ms) = Mark.Gap c ∷ with_count ms
with_count (Mark.Touch c n h ∷ ms) = Mark.Touch c n h ∷ with_count ms
with_count (Mark.Make c n b ∷ ms) = Mark.Make c n b ∷ with_count ms
with_count (Mark.Fill c n ∷ ms) = Mark.Fill c n ∷ with_count ms

-- marks with one more cell behind them: with that mark, or counted
abbrev pub with_cell : List Mark → Option Mark → List Mark
with_cell ms None = with_count ms
with_cell ms (Some m) = ms ++ m ∷ []

-- the mark of a cell that is made
abbrev pub made_mark : (NodeId → Option To) → Owned → Mark
made_mark target_of o = Mark.Make o.cell o.node (is_here (how (target_of o.node) (To.Cell o.cell)))

-- what a cell becomes that is found
abbrev pub found_cell : RowPart → Document → Owned → CellMark
found_cell p D o = embed_cell p o.cell o.node (is_cell o.cell (D.place o.node))

-- how many cells a mark counts, if it counts cells
abbrev pub count_in : Mark → Option ℕ
count_in (Mark.Skip k) = Some k
count_in (Mark.Gap c) = None
count_in (Mark.Touch c n h) = None
count_in (Mark.Make c n b) = None
count_in (Mark.Fill c n) = None

-- no mark counts more cells
abbrev pub counts_within : ℕ → Mark → Type 0
counts_within most (Mark.Skip k) = k ≤ most
counts_within most (Mark.Gap c) = Unit {0}
counts_within most (Mark.Touch c n h) = Unit {0}
counts_within most (Mark.Make c n b) = Unit {0}
counts_within most (Mark.Fill c n) = Unit {0}

abbrev pub CountWithin : ℕ → List Mark → Type 0
CountWithin most ms = AllByRecursion (counts_within most) ms

-- one more cell can be counted
abbrev pub HasRoom : List Mark → Type 0
HasRoom ms = CountWithin 4294967294 ms

-- whether a row is listed for a mark
abbrev pub tells_mark : Mark → Bool
tells_mark (Mark.Skip k) = false
tells_mark (Mark.Gap c) = false
tells_mark (Mark.Touch c n h) = true
tells_mark (Mark.Make c n b) = true
tells_mark (Mark.Fill c n) = true
