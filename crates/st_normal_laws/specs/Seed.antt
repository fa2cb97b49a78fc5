-- The seed: the document that has what is found and, of what is found without a name, fresh names.
use Rattle.std.specs.Prelude.{◌≡◌, ◌≢◌, ◌<◌, ◌^◌, ◌+◌, ◌++◌, ◌⊎◌, ℕ, zero, suc, List, [], ◌∷◌, map, length, Option, Some, if◌then◌else◌}
use Rattle.std.specs.Option.{option_map_or}
use Rattle.std.specs.List.{flat_map}
use Rattle.st_ids.specs.Listing.{AreDistinct, Has}
use Rattle.st_ids.specs.declared.names.Atom.{Atom}
use Rattle.st_ids.specs.declared.names.CellId.{CellId}
use Rattle.st_ids.specs.declared.names.FieldId.{FieldId}
use Rattle.st_ids.specs.declared.names.NodeId.{NodeId}
use Rattle.st_marks.specs.declared.places.Slot.{Slot}
use Rattle.st_marks.specs.declared.places.Spot.{Spot}
use Rattle.st_marks.specs.declared.schemas.SchemaEntry.{SchemaEntry}
use Rattle.st_marks.specs.Agree.{LeadsUp}
use Rattle.st_marks.specs.Document.{CanBeInEffect}
use Rattle.st_ids.specs.Root.{root}
use Rattle.st_marks.specs.Listings.{CellView, one_or_none, nodes_standing}
use Rattle.st_normal_laws.specs.Laid.{LaidRow, LaidHeld, Layout}

-- ## Fresh names

-- a session above F for a cell of a row: of each place in the row another
abbrev pub lift : ℕ → ℕ → ℕ → ℕ
lift F zero s = s + F
lift F (suc k) s = lift F k s + F

-- a name that nobody has whose sessions are below F, for a cell of a node's row, by how many cells come
-- behind it
abbrev pub fresh : ℕ → NodeId → ℕ → Atom
fresh F n k = record {
  rev = record { session = lift F k n.0.rev.session; num = n.0.rev.num };
  at = n.0.at;
}

-- the cell of that name
abbrev pub fresh_cell : ℕ → NodeId → ℕ → CellId
fresh_cell F n k = record { 0 = fresh F n k }

-- the node of that name
abbrev pub fresh_node : ℕ → NodeId → ℕ → NodeId
fresh_node F n k = record { 0 = fresh F n k }

-- ## What is found

pub record FoundRow : Type 0 where
  pub node : NodeId
  pub cells : List CellView

pub record FoundHeld : Type 0 where
  pub field : FieldId
  pub node : Option NodeId

-- rows and registers as they are found, and the nodes that have to be there
pub record Finds : Type 0 where
  pub rows : List FoundRow
  pub held : List FoundHeld
  pub known : List NodeId
  pub schemas : List SchemaEntry

-- ## The seed

-- one cell of a node's row: what isn't told has a fresh name; an empty cell whose owner isn't told
-- is the root's
abbrev pub lay_cell : ℕ → NodeId → ℕ → CellView → Slot
lay_cell F n k x = record {
  cell = option_map_or (λ (c : CellId). c) x.cell (fresh_cell F n k);
  node = option_map_or (λ (m : NodeId). m) x.node (if x.full then fresh_node F n k else root);
  full = x.full;
}

-- the cells of a node's row
abbrev pub lay : ℕ → NodeId → List CellView → List Slot
lay F n [] = []
lay F n (x ∷ xs) = lay_cell F n (length xs) x ∷ lay F n xs

-- a row with all its cells
abbrev pub lay_row : ℕ → FoundRow → LaidRow
lay_row F r = record { node = r.node; cells = lay F r.node r.cells }

-- a register, if it has an occupant
abbrev pub lay_held : FoundHeld → List LaidHeld
lay_held h =
    map (λ n. let l : LaidHeld = record { field = h.field; node = n } in l) (one_or_none h.node)

-- the owners of all cells
abbrev pub owners_laid : ℕ → List FoundRow → List NodeId
owners_laid F rows =
    flat_map (λ (r : FoundRow). map (λ (s : Slot). s.node) (lay F r.node r.cells)) rows

-- the lists from which the document is laid out: what is found, and the fresh names
abbrev pub seed : ℕ → Finds → Layout
seed F W = record {
  rows = map (lay_row F) W.rows;
  held = flat_map lay_held W.held;
  known = W.known ++ owners_laid F W.rows;
  schemas = W.schemas;
}

-- ## What can be found together

-- the cells that are named in a row
abbrev pub cells_named : List CellView → List CellId
cells_named cells = flat_map (λ (x : CellView). one_or_none x.cell) cells

-- the nodes that are found in rows and registers
abbrev pub nodes_found : Finds → List NodeId
nodes_found W = flat_map (λ (r : FoundRow). nodes_standing r.cells) W.rows
    ++ flat_map (λ (h : FoundHeld). one_or_none h.node) W.held

-- a node is found in a row or a register
abbrev pub IsFoundAt : Finds → NodeId → Spot → Type 0
IsFoundAt W n s =
    ((r : FoundRow) × (c : CellId)
    × Has W.rows r × Has (nodes_standing r.cells) n × (s ≡ Spot.Row r.node c))
    ⊎ ((h : FoundHeld) × Has W.held h × (h.node ≡ Some n) × (s ≡ Spot.Register h.field))

-- a name with a session below F
abbrev pub IsBelow : ℕ → Atom → Type 0
IsBelow F a = a.rev.session < F

-- what can be found together, where no session that is named reaches F
pub record CanBeFound (F : ℕ) (W : Finds) : Type 0 where
  pub rows_once : AreDistinct (λ (r : FoundRow). r.node) W.rows
  pub cells_once : AreDistinct (λ c. c) (flat_map (λ (r : FoundRow). cells_named r.cells) W.rows)
  pub fields_once : AreDistinct (λ (h : FoundHeld). h.field) W.held
  pub nodes_once : AreDistinct (λ n. n) (nodes_found W)
  pub root_stays : Has (nodes_found W) root → ⊥
  pub row_known : (r : FoundRow) (x : CellView) → Has W.rows r → Has r.cells x
      → Has (root ∷ W.known) r.node
  pub held_known : (h : FoundHeld) (n : NodeId) → Has W.held h → h.node ≡ Some n
      → Has (root ∷ W.known) n × Has (root ∷ W.known) h.field.node
  pub keys : (h : FoundHeld) (n : NodeId) → Has W.held h → h.node ≡ Some n → h.field.key.0 ≢ []
  pub short : (r : FoundRow) → Has W.rows r → length r.cells < 2 ^ 32
  pub no_ring : (n : NodeId) → LeadsUp (IsFoundAt W) n n → ⊥
  pub in_effect : CanBeInEffect W.schemas
  -- bounds
  pub below_rows : (r : FoundRow) → Has W.rows r → IsBelow F r.node.0
  pub below_cells : (r : FoundRow) (c : CellId) → Has W.rows r → Has (cells_named r.cells) c
      → IsBelow F c.0
  pub below_nodes : (n : NodeId) → Has (nodes_found W) n → IsBelow F n.0
  pub below_fields : (h : FoundHeld) → Has W.held h → IsBelow F h.field.node.0
