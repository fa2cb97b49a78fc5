-- One row as a field of its own: the part of an intent that concerns it, what it holds after that part, and what a change
-- and a step say of it.
use Rattle.std.specs.Prelude.{◌≡◌, ◌≢◌, ◌⊎◌, ◌<◌, ◌^◌, ◌||◌, ◌&&◌, Bool, true, false, List, [], ◌∷◌, ◌++◌, Some, None, map, length, if◌then◌else◌}
use Rattle.std.specs.List.{AllByRecursion, list_any, flat_map}
use Rattle.st_ids.specs.Listing.{AreDistinct, Has, IsRising}
use Rattle.st_ids.specs.Order.{node_cmp, same_cell, same_node}
use Rattle.st_ids.specs.declared.names.CellId.{CellId}
use Rattle.st_ids.specs.declared.names.NodeId.{NodeId}
use Rattle.st_ids.specs.declared.names.Rev.{Rev}
use Rattle.st_kind.specs.Named.{Nodes}
use Rattle.st_marks.specs.declared.intents.Owned.{Owned}
use Rattle.st_marks.specs.declared.intents.To.{To}
use Rattle.st_marks.specs.declared.marks.Mark.{Mark}
use Rattle.st_marks.specs.declared.places.Slot.{Slot}
use Rattle.st_ids.specs.Root.{root}
use Rattle.st_marks.specs.declared.intents.Intent.{Intent}
use Rattle.st_marks.specs.Embedding.{is_among, row_part}
use Rattle.st_marks.specs.Intent.{is_new}
use Rattle.st_marks.specs.Row.{CellMark, Counted, Gap, Touch, Make, Fill, RowPart, merge, embed_row}
use Rattle.st_rows.specs.Changes.{StandsIn, AreJoined, AreOld, placed_by, row_after}
use Rattle.st_rows.specs.Rows.{IsRowStep, NamesMoved}
use Rattle.st_rows.specs.declared.values.RowChange.{RowChange}

-- ## What a row holds

-- the cells of a row
abbrev pub cells_of : List Slot → List CellId
cells_of c = map (λ (s : Slot). s.cell) c

-- the nodes that stand in a row
abbrev pub standing_nodes : List Slot → List NodeId
standing_nodes [] = []
standing_nodes (s ∷ c) = if s.full then s.node ∷ standing_nodes c else standing_nodes c

-- a row of a document can hold this: each cell is there once, each node stands in one of them, and the root in none
pub record RowCanHold (c : List Slot) : Type 0 where
  pub once : AreDistinct (λ (s : Slot). s.cell) c
  pub stand_once : AreDistinct (λ (n : NodeId). n) (standing_nodes c)
  pub no_root : StandsIn root c → ⊥
  pub short : length c < 2 ^ 32

-- whether a cell is full in a row
abbrev pub is_full_in : List Slot → CellId → Bool
is_full_in c a = list_any (λ (s : Slot). s.full && same_cell s.cell a) c

-- the later of two rows, with the nodes where they stood in the earlier one
abbrev pub retreat_to : List Slot → List Slot → List Slot
retreat_to c d = map (λ (s : Slot). record s { full = is_full_in c s.cell }) d

-- ## The part of an intent

-- the part of an intent that concerns one row
pub record SeqPart : Type 0 where
  pub rev : Rev
  -- whether the row's own node is new
  pub in_new : Bool
  -- new nodes of the intent, in rising order
  pub new : List NodeId
  -- what it does with the row
  pub part : RowPart

-- the new nodes of an intent, in rising order
pub record ListsNew (N : Intent) (new : List NodeId) : Type 0 where
  pub rising : IsRising node_cmp (λ (n : NodeId). n) new
  pub each : (n : NodeId) → is_among new n ≡ is_new N n

-- the part of an intent that mentions these nodes, and makes those that are listed
abbrev pub row_part_of : Nodes → List NodeId → Intent → NodeId → SeqPart
row_part_of m new N n = record { rev = N.rev; in_new = is_new N n; new = new; part = row_part m N n }

-- the cells that the part makes at the start of a row and after its cells
abbrev pub made_in : RowPart → List Slot → List Owned
made_in p c = p.new_cells None ++ flat_map (λ (s : Slot). p.new_cells (Some s.cell)) c

-- the part is that of an intent which fits where the row holds this
pub record RowFits (p : SeqPart) (c : List Slot) : Type 0 where
  pub content : RowCanHold c
  -- the row of a new node has no cells yet, and no cell has a new node as its owner
  pub empty : p.in_new ≡ true → c ≡ []
  pub old : AreOld (is_among p.new) c
  -- new nodes are listed in rising order, have the intent's revision, and the root isn't one
  pub rising : IsRising node_cmp (λ (n : NodeId). n) p.new
  pub new_rev : AllByRecursion (λ (n : NodeId). n.0.rev ≡ p.rev) p.new
  pub root_old : is_among p.new root ≡ false
  -- new cells have the intent's revision, none is there already, and each is made once, at the row's start or after its cells
  pub cell_rev : AllByRecursion (λ (o : Owned). o.cell.0.rev ≡ p.rev) (made_in p.part c)
  pub fresh : AllByRecursion (λ (o : Owned). Has (cells_of c) o.cell → ⊥) (made_in p.part c)
  pub made_once : AreDistinct (λ (o : Owned). o.cell) (made_in p.part c)
  pub behind : (a : CellId) → p.part.new_cells (Some a) ≢ [] → Has (cells_of c) a
  -- the owner of a new cell is new or is put somewhere
  pub owners : AllByRecursion (λ (o : Owned). (is_among p.new o.node ≡ true) ⊎ (p.part.target_of o.node ≢ None)) (made_in p.part c)
  -- a node is put only into cells that it owns
  pub own_old : AllByRecursion (λ (s : Slot). (n : NodeId) → p.part.target_of n ≡ Some (To.Cell s.cell) → s.node ≡ n) c
  pub own_made : AllByRecursion (λ (o : Owned). (n : NodeId) → p.part.target_of n ≡ Some (To.Cell o.cell) → o.node ≡ n) (made_in p.part c)
  -- the root isn't put, and a new node isn't put nowhere
  pub root_stays : p.part.target_of root ≡ None
  pub somewhere : (n : NodeId) → is_among p.new n ≡ true → p.part.target_of n ≢ Some To.Nowhere
  -- an old node that is put is mentioned
  pub mentions : (n : NodeId) → p.part.target_of n ≢ None → is_among p.new n ≡ false → p.part.mentioned n ≡ true

-- the row after the part, void or whole
abbrev pub row_carried : SeqPart → Bool → List Slot → List Slot
row_carried p void c = row_after (placed_by p.in_new p.new) p.part void c

-- ## Changes and steps

-- the change of the part where the row holds this
abbrev pub row_change_of : SeqPart → List Slot → RowChange
row_change_of p c = record { rev = p.rev; in_new = p.in_new; new = p.new; marks = merge (embed_row p.part c) }

-- the step leads from one row to another, and names these nodes, among them those that it moves
pub record RowLeadsOver (m : Nodes) (c d : List Slot) (marks : List Mark) : Type 0 where
  pub before : RowCanHold c
  pub after : RowCanHold d
  pub step : IsRowStep m c d marks
  pub moved : NamesMoved m step.grows

-- whether a mark makes a cell full with a node
abbrev pub brings_in : NodeId → CellMark → Bool
brings_in n Counted = false
brings_in n (Gap c) = false
brings_in n (Touch c x h) = false
brings_in n (Make c x b) = b && same_node x n
brings_in n (Fill c x) = false

-- the nodes that come in with the cells that the marks make
abbrev pub nodes_brought : List CellMark → Nodes
nodes_brought xs n = list_any (brings_in n) xs

-- each mentioned node that is in the later row was in the earlier one, and so was each of its cells into which the part
-- puts a node
pub record RowKeeps (p : RowPart) (c d : List Slot) : Type 0 where
  pub stays : (n : NodeId) → p.mentioned n ≡ true → StandsIn n d → StandsIn n c
  pub older : (n : NodeId) (a : CellId) → p.target_of n ≡ Some (To.Cell a) → Has (cells_of d) a → Has (cells_of c) a

-- ## Two parts in turn

-- j is both parts in turn, as far as the row tells. Its new nodes are those of both.
pub record RowPartsAreJoined (p q : SeqPart) (c : List Slot) (j : SeqPart) : Type 0 where
  pub rev : p.rev ≡ j.rev
  pub in_new : j.in_new ≡ (p.in_new || q.in_new)
  pub rising : IsRising node_cmp (λ (n : NodeId). n) j.new
  pub new : (n : NodeId) → is_among j.new n ≡ (is_among p.new n || is_among q.new n)
  pub part : AreJoined p.part q.part c j.part
