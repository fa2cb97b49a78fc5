-- A row of the document between, and what a change says of it, cell by cell.
use Rattle.std.specs.Prelude.{◌≡◌, ◌⊎◌, Bool, true, false, ◌&&◌, List, [], ◌∷◌, map, Option, Some, None, if◌then◌else◌}
use Rattle.st_ids.specs.declared.names.CellId.{CellId}
use Rattle.st_ids.specs.declared.names.FieldId.{FieldId}
use Rattle.st_ids.specs.declared.names.NodeId.{NodeId}
use Rattle.st_marks.specs.declared.intents.To.{To}
use Rattle.st_marks.specs.declared.marks.How.TheVariants.{Leave}
use Rattle.st_marks.specs.declared.marks.RegMark.{RegMark}
use Rattle.st_marks.specs.declared.marks.RegStep.{RegStep}
use Rattle.st_marks.specs.declared.places.Slot.{Slot}
use Rattle.st_marks.specs.Extends.{GainsItems, no_more, item_gained, item_kept}
use Rattle.st_marks.specs.Row.{CellMark, Counted, Gap, Touch, Make, Fill, SameCell, how}
use Rattle.st_marks.specs.How.{is_here}
use Rattle.st_marks.specs.Register.{embed_register, holds_mentioned}
use Rattle.st_moves.specs.Between.{only_others}
use Rattle.st_rows.specs.Walks.{CellPiece, Both, First, Then, beside}

-- the later row's cells: those of given nodes as the later row has them, the others as the earlier one has them
abbrev pub row_between : (NodeId → Bool) → {c d : List Slot} → GainsItems SameCell c d → List Slot
row_between m no_more = []
row_between m (item_gained {y} g) = record y { full = y.full && m y.node } ∷ row_between m g
row_between m (item_kept {x} {y} same g) = record y { full = if m y.node then y.full else x.full } ∷ row_between m g

-- what a change says of a cell that it finds, full or not, by where it puts nodes and which it mentions
abbrev pub full_mark : (NodeId → Option To) → (NodeId → Bool) → CellId → NodeId → CellMark
full_mark target_of m c n = if m n then Touch c n (how (target_of n) (To.Cell c)) else Counted

abbrev pub empty_mark : (NodeId → Option To) → CellId → NodeId → CellMark
empty_mark target_of c n = if is_here (how (target_of n) (To.Cell c)) then Fill c n else Gap c

-- a cell that the step leaves as it is: only what is mentioned may be another
abbrev pub read_again : (NodeId → Option To) → (NodeId → Bool) → CellMark → CellMark
read_again target_of m Counted = Counted
read_again target_of m (Gap c) = Gap c
read_again target_of m (Touch c n h) = full_mark target_of m c n
read_again target_of m (Make c n b) = Make c n b
read_again target_of m (Fill c n) = Fill c n

-- a cell that both find
abbrev pub carried_found : (NodeId → Option To) → (NodeId → Bool) → CellMark → CellMark → CellMark
carried_found target_of m x Counted = read_again target_of m x
carried_found target_of m x (Gap c) = read_again target_of m x
carried_found target_of m x (Touch c n Leave) = if m n then empty_mark target_of c n else Counted
carried_found target_of m x (Touch c n h) = full_mark target_of m c n
carried_found target_of m x (Make c n b) = x
carried_found target_of m x (Fill c n) = if m n then full_mark target_of m c n else x

-- a piece of the change and the step, side by side
abbrev pub carried_piece : (NodeId → Option To) → (NodeId → Bool) → CellPiece → CellMark
carried_piece target_of m (Both x y) = carried_found target_of m x y
carried_piece target_of m (First x) = x
carried_piece target_of m (Then (Make c n b)) = if b && m n then full_mark target_of m c n else empty_mark target_of c n
carried_piece target_of m (Then y) = y

-- the change in the document between
abbrev pub carry_row : (NodeId → Option To) → (NodeId → Bool) → List CellMark → List CellMark → List CellMark
carry_row target_of m xs ys = map (carried_piece target_of m) (beside xs ys)

-- what is mentioned later and stands in a cell before and after was mentioned before, or the step names it
abbrev pub AreCovered : (NodeId → Bool) → (NodeId → Bool) → (NodeId → Bool) → {c d : List Slot} → GainsItems SameCell c d → Type 0
AreCovered m before named no_more = Unit {0}
AreCovered m before named (item_gained g) = AreCovered m before named g
AreCovered m before named (item_kept {x} {y} same g) = (x.full ≡ true → y.full ≡ true → m x.node ≡ true → (before x.node ≡ true) ⊎ (named x.node ≡ true)) × AreCovered m before named g

-- ## Registers

-- who is in a register of the document between: one of the given nodes as it is later, another as it was
abbrev pub held_between : (NodeId → Bool) → Option NodeId → Option NodeId → Option NodeId
held_between m before after = if holds_mentioned m after then after else only_others m before

-- whom a change puts into a register that it lists
abbrev pub goal_of : RegMark → Option NodeId
goal_of c = if is_here c.how then c.held else c.fill

-- what a change says of a register, by whether it clears it, whom it puts there, and who is there
abbrev pub register_mark : FieldId → (NodeId → Option To) → (NodeId → Bool) → Bool → Option NodeId → Option NodeId → Option RegMark
register_mark f target_of m clear goal held = embed_register f (record { clear = clear; fill = goal; target_of = target_of; mentioned = m }) held

-- what it says between, by what it and the step say of the register, if they list it
abbrev pub carried_register : FieldId → (NodeId → Option To) → (NodeId → Bool) → Option RegMark → Option RegStep → Option RegMark
carried_register f target_of m None None = None
carried_register f target_of m None (Some s) = register_mark f target_of m false None (held_between m s.before s.after)
carried_register f target_of m (Some c) None = register_mark f target_of m c.clear (goal_of c) (held_between m c.held c.held)
carried_register f target_of m (Some c) (Some s) = register_mark f target_of m c.clear (goal_of c) (held_between m c.held s.after)
