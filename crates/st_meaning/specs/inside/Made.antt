-- The cells that marks make, each with the place where its group stands.
use Rattle.std.specs.Prelude.{ℕ, ◌+◌, ◌-◌, ◌&&◌, ◌==◌, List, [], ◌∷◌, Option, Some, None, length, min, option_map, slice_get, unwrap_or, if◌then◌else◌}
use Rattle.std.specs.BTreeMap.{BTreeMap, get}
use Rattle.std.specs.List.{find}
use Rattle.st_ids.specs.Order.{same_node}
use Rattle.st_ids.specs.declared.names.CellId.{CellId}
use Rattle.st_ids.specs.declared.names.FieldId.{FieldId}
use Rattle.st_ids.specs.declared.names.NodeId.{NodeId}
use Rattle.st_marks.specs.declared.intents.Group.{Group}
use Rattle.st_marks.specs.declared.intents.Owned.{Owned}
use Rattle.st_marks.specs.declared.intents.Put.{Put}
use Rattle.st_marks.specs.declared.intents.To.{To}
use Rattle.st_marks.specs.declared.marks.Mark.{Mark}
use Rattle.st_marks.specs.declared.marks.RegMark.{RegMark}
use Rattle.st_marks.specs.declared.marks.RowMarks.{RowMarks}
use Rattle.st_marks.specs.Document.{Document, owned_cell}
use Rattle.st_marks.specs.Intent.{cells_of, same_anchor}
use Rattle.st_marks.specs.Row.{CellMark, Counted, Gap, Touch, Make, Fill, spread}
use Rattle.st_meaning.specs.InOrder.{place_cmp}

-- the cell before a place of a row; None at its start
abbrev pub anchor_in : List Owned → ℕ → Option CellId
anchor_in cells i = if i == 0 then None else option_map (λ (o : Owned). o.cell) (slice_get cells (i - 1))

-- the place after a cell, or the row's end
abbrev pub next_in : List Owned → ℕ → ℕ → ℕ
next_in cells i k = min (i + k) (length cells)

-- where one is after a mark
abbrev pub after_mark : List Owned → ℕ → Mark → ℕ
after_mark cells i (Mark.Skip k) = next_in cells i k
after_mark cells i (Mark.Gap c) = next_in cells i 1
after_mark cells i (Mark.Touch c n h) = next_in cells i 1
after_mark cells i (Mark.Make c n b) = i
after_mark cells i (Mark.Fill c n) = next_in cells i 1

-- the cells that marks make from a place of a row on, each with the cell before it
abbrev pub made_from : List Owned → ℕ → List CellMark → List (Option CellId × Owned)
made_from cells i [] = []
made_from cells i (Counted ∷ ms) = made_from cells (next_in cells i 1) ms
made_from cells i (Gap c ∷ ms) = made_from cells (next_in cells i 1) ms
made_from cells i (Touch c n h ∷ ms) = made_from cells (next_in cells i 1) ms
made_from cells i (Make c n b ∷ ms) = (anchor_in cells i, owned_cell c n) ∷ made_from cells i ms
made_from cells i (Fill c n ∷ ms) = made_from cells (next_in cells i 1) ms

-- those of them behind a cell
abbrev pub at_anchor : Option CellId → List (Option CellId × Owned) → List Owned
at_anchor a [] = []
at_anchor a (p ∷ ps) = if same_anchor p.0 a then p.1 ∷ at_anchor a ps else at_anchor a ps

-- those of them at a place, where the row is that of a node
abbrev pub at_place : NodeId → NodeId → Option CellId → List (Option CellId × Owned) → List Owned
at_place r n a ps = if same_node r n then at_anchor a ps else []

-- what one mark makes
abbrev pub made_by : List Owned → ℕ → Mark → List (Option CellId × Owned)
made_by cells i (Mark.Skip k) = []
made_by cells i (Mark.Gap c) = []
made_by cells i (Mark.Touch c n h) = []
made_by cells i (Mark.Make c n b) = (anchor_in cells i, owned_cell c n) ∷ []
made_by cells i (Mark.Fill c n) = []

-- what the marks of a row make at a place
abbrev pub made_in_row : Document → NodeId → Option CellId → RowMarks → List Owned
made_in_row D n a r = at_place r.node n a (made_from (D.rows r.node) 0 (spread r.marks))

-- the cells that a map has at a place
abbrev pub cells_at : BTreeMap (NodeId × Option CellId) (List Owned) → NodeId → Option CellId → List Owned
cells_at places n a = unwrap_or (get place_cmp places (n, a)) []

-- a group, if it makes a cell
abbrev pub group_here : NodeId → Option CellId → List Owned → Option Group
group_here n a [] = None
group_here n a (o ∷ os) = Some (record { node = n; after = a; cells = o ∷ os })

-- the cells of the first of some groups at a place
abbrev pub made_at : List Group → NodeId → Option CellId → List Owned
made_at groups n a = cells_of (find (λ (g : Group). same_node g.node n && same_anchor g.after a) groups)

-- where the first of some puts puts a node
abbrev pub put_by : List Put → NodeId → Option To
put_by puts n = option_map (λ (p : Put). p.to) (find (λ (p : Put). same_node p.node n) puts)

-- a register, if it is cleared
abbrev pub cleared_at : RegMark → List FieldId
cleared_at r = if r.clear then r.field ∷ [] else []
