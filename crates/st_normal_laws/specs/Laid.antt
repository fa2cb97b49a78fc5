-- A document that is laid out from lists: rows with all their cells, registers with their occupants,
-- and the nodes there are.
use Rattle.std.specs.Prelude.{◌≢◌, ◌<◌, ◌^◌, ◌++◌, List, [], ◌∷◌, map, length, Some, None, option_map, if◌then◌else◌}
use Rattle.std.specs.Option.{option_map_or}
use Rattle.std.specs.List.{find, flat_map, list_any}
use Rattle.st_ids.specs.Listing.{AreDistinct, Has}
use Rattle.st_ids.specs.Order.{same_cell, same_field, same_node}
use Rattle.st_ids.specs.declared.names.FieldId.{FieldId}
use Rattle.st_ids.specs.declared.names.NodeId.{NodeId}
use Rattle.st_marks.specs.declared.intents.Owned.{Owned}
use Rattle.st_marks.specs.declared.places.Slot.{Slot}
use Rattle.st_marks.specs.declared.places.Spot.{Spot}
use Rattle.st_marks.specs.declared.schemas.SchemaEntry.{SchemaEntry}
use Rattle.st_marks.specs.Agree.{LeadsUp}
use Rattle.st_marks.specs.Document.{Document, NodeType, CanBeInEffect}
use Rattle.st_ids.specs.Root.{root}
use Rattle.st_marks.specs.Embedding.{is_among}

-- a row with its cells
pub record LaidRow : Type 0 where
  pub node : NodeId
  pub cells : List Slot

-- a register with its occupant
pub record LaidHeld : Type 0 where
  pub field : FieldId
  pub node : NodeId

-- a node with its place
pub record Stand : Type 0 where
  pub node : NodeId
  pub spot : Spot

pub record Layout : Type 0 where
  pub rows : List LaidRow
  pub held : List LaidHeld
  -- all nodes but the root
  pub known : List NodeId
  pub schemas : List SchemaEntry

-- the cells of a node's row
abbrev pub cells_at : List LaidRow → NodeId → List Slot
cells_at rows n = option_map_or (λ (r : LaidRow). r.cells)
    (find (λ (r : LaidRow). same_node r.node n) rows) []

-- the nodes in the full cells of a node's row
abbrev pub stands_in : NodeId → List Slot → List Stand
stands_in n [] = []
stands_in n (s ∷ ss) = if s.full
    then record { node = s.node; spot = Spot.Row n s.cell } ∷ stands_in n ss
    else stands_in n ss

-- all nodes that stand somewhere
abbrev pub all_stands : Layout → List Stand
all_stands L = flat_map (λ (r : LaidRow). stands_in r.node r.cells) L.rows
    ++ map (λ (h : LaidHeld).
    let s : Stand = record { node = h.node; spot = Spot.Register h.field } in s) L.held

-- a node without a type or value to speak of
abbrev pub blank : NodeType
blank = record { ty = []; leaf = None }

-- a cell with its owner
abbrev pub owned_at : Slot → Owned
owned_at s = record { cell = s.cell; node = s.node }

-- the document
abbrev pub laid_document : Layout → Document
laid_document L = record {
  nodes = λ n. if is_among (root ∷ L.known) n then Some blank else None;
  rows = λ n. map owned_at (cells_at L.rows n);
  row_of = λ c. option_map (λ (r : LaidRow). r.node)
      (find (λ (r : LaidRow). list_any (λ (s : Slot). same_cell s.cell c) r.cells) L.rows);
  place = λ n. option_map_or (λ (s : Stand). s.spot)
      (find (λ (s : Stand). same_node s.node n) (all_stands L)) Spot.Nowhere;
  held = λ f. option_map (λ (h : LaidHeld). h.node)
      (find (λ (h : LaidHeld). same_field h.field f) L.held);
  schemas = L.schemas;
}

-- a node stands there
abbrev pub StandsAt : List Stand → NodeId → Spot → Type 0
StandsAt stands n s = Has stands (record { node = n; spot = s })

-- lists from which a document can be laid out
pub record IsLayout (L : Layout) : Type 0 where
  pub rows_once : AreDistinct (λ (r : LaidRow). r.node) L.rows
  pub cells_once : AreDistinct (λ (s : Slot). s.cell) (flat_map (λ (r : LaidRow). r.cells) L.rows)
  pub fields_once : AreDistinct (λ (h : LaidHeld). h.field) L.held
  pub stands_once : AreDistinct (λ (s : Stand). s.node) (all_stands L)
  pub root_stands : (s : Spot) → StandsAt (all_stands L) root s → ⊥
  pub cells_known : (r : LaidRow) (s : Slot) → Has L.rows r → Has r.cells s
      → Has (root ∷ L.known) r.node × Has (root ∷ L.known) s.node
  pub held_known : (h : LaidHeld) → Has L.held h
      → Has (root ∷ L.known) h.node × Has (root ∷ L.known) h.field.node
  pub keys : (h : LaidHeld) → Has L.held h → h.field.key.0 ≢ []
  pub short : (r : LaidRow) → Has L.rows r → length r.cells < 2 ^ 32
  pub no_ring : (n : NodeId) → LeadsUp (StandsAt (all_stands L)) n n → ⊥
  pub in_effect : CanBeInEffect L.schemas
