-- What a change or a step shows of the document before it and of the document after it, and which names it has.
use Rattle.std.specs.Prelude.{◌≡◌, ◌&&◌, ◌++◌, ℕ, Bool, true, false, List, [], ◌∷◌, map, not, slice_get, Option, Some, None, option_map, if◌then◌else◌}
use Rattle.std.specs.List.{list_any, flat_map}
use Rattle.std.specs.Option.{option_or, option_map_or}
use Rattle.st_ids.specs.Listing.{item_of}
use Rattle.st_ids.specs.Order.{node_cmp, field_cmp, same_cell}
use Rattle.st_ids.specs.declared.names.CellId.{CellId}
use Rattle.st_ids.specs.declared.names.FieldId.{FieldId}
use Rattle.st_ids.specs.declared.names.NodeId.{NodeId}
use Rattle.st_marks.specs.declared.changes.Change.{Change}
use Rattle.st_marks.specs.declared.changes.NewNode.{NewNode}
use Rattle.st_marks.specs.declared.marks.Loose.{Loose}
use Rattle.st_marks.specs.declared.marks.RegMark.{RegMark}
use Rattle.st_marks.specs.declared.marks.RegStep.{RegStep}
use Rattle.st_marks.specs.declared.marks.RowMarks.{RowMarks}
use Rattle.st_marks.specs.declared.places.Spot.{Spot}
use Rattle.st_marks.specs.declared.steps.Step.{Step}
use Rattle.st_marks.specs.Row.{CellMark, Counted, Gap, Touch, Make, Fill, spread}
use Rattle.st_marks.specs.How.{is_leave, is_here}
use Rattle.st_marks.specs.Embedding.{is_among}

-- ## Names

-- the names that a change or a step has, and those that it makes
pub record Names : Type 0 where
  -- a node that it names anywhere
  pub names_node : NodeId → Bool
  -- a cell that it names in the row of a node
  pub names_cell : NodeId → CellId → Bool
  pub makes_node : NodeId → Bool
  pub makes_cell : CellId → Bool

-- the node in a cell's mark, the owner of an empty cell too
abbrev pub node_in : CellMark → List NodeId
node_in Counted = []
node_in (Gap c) = []
node_in (Touch c n h) = n ∷ []
node_in (Make c n b) = n ∷ []
node_in (Fill c n) = n ∷ []

-- the nodes in a row's marks, owners of empty cells too
abbrev pub nodes_in : List CellMark → List NodeId
nodes_in = flat_map node_in

-- the cell in a mark
abbrev pub cell_in : CellMark → List CellId
cell_in Counted = []
cell_in (Gap c) = c ∷ []
cell_in (Touch c n h) = c ∷ []
cell_in (Make c n b) = c ∷ []
cell_in (Fill c n) = c ∷ []

-- the cells in a row's marks
abbrev pub cells_in : List CellMark → List CellId
cells_in = flat_map cell_in

-- the cell that a mark makes
abbrev pub cell_made : CellMark → List CellId
cell_made Counted = []
cell_made (Gap c) = []
cell_made (Touch c n h) = []
cell_made (Make c n b) = c ∷ []
cell_made (Fill c n) = []

-- the cells that a row's marks make
abbrev pub cells_made : List CellMark → List CellId
cells_made = flat_map cell_made

-- whether a cell is in a list
abbrev pub is_among_cells : List CellId → CellId → Bool
is_among_cells cs c = list_any (λ d. same_cell d c) cs

-- the list of one that may be there
abbrev pub one_or_none : {A : Type 0} → Option A → List A
one_or_none None = []
one_or_none (Some x) = x ∷ []

-- the marks of a node's row; none where it isn't listed
abbrev pub marks_of : List RowMarks → NodeId → List CellMark
marks_of rows n = option_map_or (λ (r : RowMarks). spread r.marks) (item_of node_cmp (λ (r : RowMarks). r.node) rows n) []

-- the nodes of listed rows, and those in their marks
abbrev pub nodes_of_rows : List RowMarks → List NodeId
nodes_of_rows rows = flat_map (λ (r : RowMarks). r.node ∷ nodes_in (spread r.marks)) rows

-- the new nodes
abbrev pub nodes_new : List NewNode → List NodeId
nodes_new new = map (λ (m : NewNode). m.node) new

-- the nodes that are listed as nowhere
abbrev pub nodes_loose : List Loose → List NodeId
nodes_loose loose = map (λ (l : Loose). l.node) loose

-- the names of a change or step that names these nodes and has these rows and new nodes
abbrev pub names_by : List NodeId → List RowMarks → List NewNode → Names
names_by nodes rows new = record {
  names_node = is_among nodes;
  names_cell = λ n c. is_among_cells (cells_in (marks_of rows n)) c;
  makes_node = is_among (nodes_new new);
  makes_cell = is_among_cells (flat_map (λ (r : RowMarks). cells_made (spread r.marks)) rows);
}

-- all that a change names
abbrev pub names_of_change : Change → Names
names_of_change C = names_by
    (C.need ++ nodes_new C.new ++ nodes_of_rows C.rows ++ flat_map (λ (r : RegMark). r.field.node ∷ (one_or_none r.held ++ one_or_none r.fill)) C.regs ++ nodes_loose C.loose)
    C.rows C.new

-- all that a step names
abbrev pub names_of_step : Step → Names
names_of_step S = names_by
    (nodes_new S.new ++ nodes_of_rows S.rows ++ flat_map (λ (r : RegStep). r.field.node ∷ (one_or_none r.before ++ one_or_none r.after)) S.regs ++ nodes_loose S.loose)
    S.rows S.new

-- ## What is shown

-- what is shown of one cell; of a counted one, only that it is full
pub record CellView : Type 0 where
  pub cell : Option CellId
  pub node : Option NodeId
  pub full : Bool

-- a cell that is named with its owner
abbrev pub cell_view : CellId → NodeId → Bool → CellView
cell_view c n b = record { cell = Some c; node = Some n; full = b }

-- a cell of a Skip
abbrev pub counted_view : CellView
counted_view = record { cell = None; node = None; full = true }

-- an empty cell whose owner isn't named
abbrev pub empty_view : CellId → CellView
empty_view c = record { cell = Some c; node = None; full = false }

-- a cell before
abbrev pub cell_before : CellMark → List CellView
cell_before Counted = counted_view ∷ []
cell_before (Gap c) = empty_view c ∷ []
cell_before (Touch c n h) = cell_view c n true ∷ []
cell_before (Make c n b) = []
cell_before (Fill c n) = cell_view c n false ∷ []

-- a row before
abbrev pub cells_before : List CellMark → List CellView
cells_before = flat_map cell_before

-- a cell after
abbrev pub cell_after : CellMark → List CellView
cell_after Counted = counted_view ∷ []
cell_after (Gap c) = empty_view c ∷ []
cell_after (Touch c n h) = cell_view c n (not (is_leave h)) ∷ []
cell_after (Make c n b) = cell_view c n b ∷ []
cell_after (Fill c n) = cell_view c n true ∷ []

-- a row after
abbrev pub cells_after : List CellMark → List CellView
cells_after = flat_map cell_after

-- who is in a register after a change: the node that comes in; or else the occupant, unless it leaves or is evicted
abbrev pub held_after : RegMark → Option NodeId
held_after r = option_or r.fill (if is_leave r.how then None else if r.clear && not (is_here r.how) then None else r.held)

-- what is shown of a document
pub record Listing : Type 0 where
  -- the cells of a node's row, if it is listed
  pub row : NodeId → Option (List CellView)
  -- a register's occupant, if any, if the register is listed
  pub register : FieldId → Option (Option NodeId)
  -- whether a node is listed as nowhere
  pub nowhere : NodeId → Bool
  -- the names of the change or step itself
  pub names : Names

-- ## Before: the row of a new node is shown empty

-- the cells of a listed row before
abbrev pub rows_before : List RowMarks → NodeId → Option (List CellView)
rows_before rows n = option_map (λ (r : RowMarks). cells_before (spread r.marks)) (item_of node_cmp (λ (r : RowMarks). r.node) rows n)

-- what a change shows of the document where it stands
abbrev pub listing_before_change : Change → Listing
listing_before_change C = record {
  row = rows_before C.rows;
  register = λ f. option_map (λ (r : RegMark). r.held) (item_of field_cmp (λ (r : RegMark). r.field) C.regs f);
  nowhere = is_among (nodes_loose C.loose);
  names = names_of_change C;
}

-- what a step shows of the document from which it leads
abbrev pub listing_before_step : Step → Listing
listing_before_step S = record {
  row = rows_before S.rows;
  register = λ f. option_map (λ (r : RegStep). r.before) (item_of field_cmp (λ (r : RegStep). r.field) S.regs f);
  nowhere = is_among (nodes_loose S.loose);
  names = names_of_step S;
}

-- ## After: a row or register of a new node that isn't listed is shown empty

-- the cells of a row after, of a new node too
abbrev pub rows_after : List RowMarks → List NewNode → NodeId → Option (List CellView)
rows_after rows new n = option_or (option_map (λ (r : RowMarks). cells_after (spread r.marks)) (item_of node_cmp (λ (r : RowMarks). r.node) rows n)) (if is_among (nodes_new new) n then Some [] else None)

-- the occupant of a register after, of a new node too
abbrev pub registers_after : Option (Option NodeId) → List NewNode → FieldId → Option (Option NodeId)
registers_after listed new f = option_or listed (if is_among (nodes_new new) f.node then Some None else None)

-- the nodes that full cells show
abbrev pub nodes_standing : List CellView → List NodeId
nodes_standing [] = []
nodes_standing (s ∷ cells) = (if s.full then one_or_none s.node else []) ++ nodes_standing cells

-- the nodes that stand somewhere before
abbrev pub placed_before : List RowMarks → List (Option NodeId) → List NodeId
placed_before rows held = flat_map (λ (r : RowMarks). nodes_standing (cells_before (spread r.marks))) rows ++ flat_map one_or_none held

-- the nodes that stand somewhere after
abbrev pub placed_after : List RowMarks → List (Option NodeId) → List NodeId
placed_after rows held = flat_map (λ (r : RowMarks). nodes_standing (cells_after (spread r.marks))) rows ++ flat_map one_or_none held

-- a node that is new or was listed before, evicted occupants too, is nowhere where nothing places it after
abbrev pub nowhere_after : List NodeId → List NodeId → NodeId → Bool
nowhere_after there placed n = is_among there n && not (is_among placed n)

-- what a change shows of the document after it, carried out whole
abbrev pub listing_after_change : Change → Listing
listing_after_change C = record {
  row = rows_after C.rows C.new;
  register = λ f. registers_after (option_map held_after (item_of field_cmp (λ (r : RegMark). r.field) C.regs f)) C.new f;
  nowhere = nowhere_after (nodes_new C.new ++ nodes_loose C.loose ++ placed_before C.rows (map (λ (r : RegMark). r.held) C.regs)) (placed_after C.rows (map held_after C.regs));
  names = names_of_change C;
}

-- what a step shows of the document to which it leads
abbrev pub listing_after_step : Step → Listing
listing_after_step S = record {
  row = rows_after S.rows S.new;
  register = λ f. registers_after (option_map (λ (r : RegStep). r.after) (item_of field_cmp (λ (r : RegStep). r.field) S.regs f)) S.new f;
  nowhere = nowhere_after (nodes_new S.new ++ nodes_loose S.loose ++ placed_before S.rows (map (λ (r : RegStep). r.before) S.regs)) (placed_after S.rows (map (λ (r : RegStep). r.after) S.regs));
  names = names_of_step S;
}

-- ## Where a node is

-- it is shown where a node is
pub data Places (L : Listing) : NodeId → Spot → Type 0 where
  placed_in_row : (n m : NodeId) (c : CellId) (cells : List CellView) (k : ℕ) → L.row n ≡ Some cells → slice_get cells k ≡ Some (cell_view c m true) → Places L m (Spot.Row n c)
  placed_in_register : (f : FieldId) (m : NodeId) → L.register f ≡ Some (Some m) → Places L m (Spot.Register f)
  placed_nowhere : (m : NodeId) → L.nowhere m ≡ true → Places L m Spot.Nowhere

-- a cell is shown at a place of a row, with its owner if that is named
pub record ListsCell (L : Listing) (c : CellId) (n : NodeId) (k : ℕ) (owner : Option NodeId) : Type 0 where
  pub cells : List CellView
  pub full : Bool
  pub listed : L.row n ≡ Some cells
  pub at_place : slice_get cells k ≡ Some (record { cell = Some c; node = owner; full = full })
