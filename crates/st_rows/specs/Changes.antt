-- What a change does to a row.
use Rattle.std.specs.Prelude.{◌≡◌, ◌≢◌, ℕ, Bool, true, false, List, [], ◌∷◌, ◌++◌, Option, Some, None, ◌⊎◌, ◌+◌, ◌||◌, ◌&&◌, length, map, if◌then◌else◌}
use Rattle.std.specs.List.{AllByRecursion}
use Rattle.std.specs.Option.{option_or}
use Rattle.st_ids.specs.Listing.{Has}
use Rattle.st_ids.specs.declared.names.CellId.{CellId}
use Rattle.st_ids.specs.declared.names.NodeId.{NodeId}
use Rattle.st_marks.specs.declared.intents.Owned.{Owned}
use Rattle.st_marks.specs.declared.intents.To.{To}
use Rattle.st_marks.specs.declared.marks.Mark.{Mark}
use Rattle.st_marks.specs.declared.places.Slot.{Slot}
use Rattle.st_kind.specs.Named.{Nodes}
use Rattle.st_marks.specs.Embedding.{is_among}
use Rattle.st_marks.specs.Extends.{GainsItems, no_more, item_gained, item_kept}
use Rattle.st_marks.specs.Listings.{cells_before, cells_made}
use Rattle.st_marks.specs.Row.{CellMark, RowPart, SameCell, same_to, how, merge, embed_row}
use Rattle.st_marks.specs.How.{is_here}

-- ## The listing of a change

-- the node is full in a cell of the row
abbrev pub StandsIn : NodeId → List Slot → Type 0
StandsIn n [] = ⊥
StandsIn n (s ∷ c) = ((s.node ≡ n) × (s.full ≡ true)) ⊎ StandsIn n c

-- the marks of the part of an intent that concerns the row c; a node in the row that it puts somewhere is mentioned
pub record IsRowChange (p : RowPart) (c : List Slot) (marks : List Mark) : Type 0 where
  pub mentions : (n : NodeId) → StandsIn n c → p.target_of n ≢ None → p.mentioned n ≡ true
  pub says : marks ≡ merge (embed_row p c)

-- ## Carrying out

-- whether the owner is in the cell after it was put there, or elsewhere, or not put
abbrev pub full_after : Option To → CellId → Bool → Bool
full_after None c full = full
full_after (Some to) c full = same_to to (To.Cell c)

-- the cells that are made
abbrev pub made_cells : RowPart → List Owned → List Slot
made_cells p [] = []
made_cells p (o ∷ os) = record { cell = o.cell; node = o.node; full = is_here (how (p.target_of o.node) (To.Cell o.cell)) } ∷ made_cells p os

-- the cells that are there, each with those that are made after it
abbrev pub carried_cells : RowPart → List Slot → List Slot
carried_cells p [] = []
carried_cells p (s ∷ c) = record s { full = full_after (p.target_of s.node) s.cell s.full } ∷ (made_cells p (p.new_cells (Some s.cell)) ++ carried_cells p c)

-- the row after the change is carried out
abbrev pub carried_row : RowPart → List Slot → List Slot
carried_row p c = made_cells p (p.new_cells None) ++ carried_cells p c

-- the part of a void intent: it puts none but placed nodes, which are new nodes inside new nodes
abbrev pub void_part : Nodes → RowPart → RowPart
void_part placed p = record { new_cells = p.new_cells; target_of = λ n. if placed n then p.target_of n else None; mentioned = p.mentioned }

-- no node that owns a cell of the row is placed, since those are old
abbrev pub AreOld : Nodes → List Slot → Type 0
AreOld placed c = AllByRecursion (λ (s : Slot). placed s.node ≡ false) c

-- the nodes that a void change places: its new ones, if the row's own node is new
abbrev pub placed_by : Bool → List NodeId → Nodes
placed_by in_new new n = in_new && is_among new n

-- ## Over a step

-- the part concerns no cell that the step makes
abbrev pub NamesNoGained : RowPart → {c d : List Slot} → GainsItems SameCell c d → Type 0
NamesNoGained p no_more = Unit {0}
NamesNoGained p (item_gained {y} g) = (p.new_cells (Some y.cell) ≡ []) × (p.target_of y.node ≢ Some (To.Cell y.cell)) × NamesNoGained p g
NamesNoGained p (item_kept same g) = NamesNoGained p g

-- what rebasing a change over the step of one row asks: the part is older than the step's cells, and each mentioned node
-- that is in the row after the step was in it before
pub record Keeps (p : RowPart) (c d : List Slot) (g : GainsItems SameCell c d) : Type 0 where
  pub older : NamesNoGained p g
  pub stays : (n : NodeId) → p.mentioned n ≡ true → StandsIn n d → StandsIn n c

-- there is no group at a cell that the step makes
abbrev pub NoGroupAtGained : RowPart → {c d : List Slot} → GainsItems SameCell c d → Type 0
NoGroupAtGained p no_more = Unit {0}
NoGroupAtGained p (item_gained {y} g) = (p.new_cells (Some y.cell) ≡ []) × NoGroupAtGained p g
NoGroupAtGained p (item_kept same g) = NoGroupAtGained p g

-- the row after the change, which is void or not
abbrev pub row_after : Nodes → RowPart → Bool → List Slot → List Slot
row_after placed p void c = carried_row (if void then void_part placed p else p) c

-- what bridging the step of one row over a change asks, where the part makes these nodes: no cell has one of them as its
-- owner, the others that it puts are mentioned, and it makes no cells after those of the step
pub record StandsOver (p : RowPart) (makes : Nodes) (c d : List Slot) (g : GainsItems SameCell c d) : Type 0 where
  pub old_before : AreOld makes c
  pub old_after : AreOld makes d
  pub mentions : (n : NodeId) → p.target_of n ≢ None → makes n ≡ false → p.mentioned n ≡ true
  pub groups : NoGroupAtGained p g

-- at most so many cells are listed by a change after a step: those that each makes, and those that the step finds
abbrev pub may_list : List CellMark → List CellMark → ℕ
may_list xs ys = length (cells_made xs) + length (cells_made ys) + length (cells_before ys)

-- ## Two parts in turn

-- the cells that the first makes, each with those that the second makes after it
abbrev pub interleaved_cells : RowPart → List Owned → List Owned
interleaved_cells q [] = []
interleaved_cells q (o ∷ os) = o ∷ (q.new_cells (Some o.cell) ++ interleaved_cells q os)

-- where both put a node: where the second does, or else where the first does
abbrev pub goes_in_turn : RowPart → RowPart → NodeId → Option To
goes_in_turn p q n = option_or (q.target_of n) (p.target_of n)

-- j is both parts in turn, as far as the row c tells. The second makes its cells after those that the first found or made,
-- so at one place they stand left of the first's.
pub record AreJoined (p q : RowPart) (c : List Slot) (j : RowPart) : Type 0 where
  pub first : j.new_cells None ≡ q.new_cells None ++ interleaved_cells q (p.new_cells None)
  pub behind : (a : CellId) → Has (map (λ (s : Slot). s.cell) c) a → j.new_cells (Some a) ≡ q.new_cells (Some a) ++ interleaved_cells q (p.new_cells (Some a))
  pub mentions : (n : NodeId) → StandsIn n c → j.mentioned n ≡ (p.mentioned n || q.mentioned n)
  -- how a node of the row goes, seen from a cell, and whether it comes into one
  pub target_of : (n : NodeId) (a : CellId) → StandsIn n c → how (j.target_of n) (To.Cell a) ≡ how (goes_in_turn p q n) (To.Cell a)
  pub comes : (n : NodeId) (a : CellId) → is_here (how (j.target_of n) (To.Cell a)) ≡ is_here (how (goes_in_turn p q n) (To.Cell a))
  -- the first puts no node into a cell that the second makes
  pub older : (a : Option CellId) → AllByRecursion (λ (o : Owned). p.target_of o.node ≢ Some (To.Cell o.cell)) (q.new_cells a)
