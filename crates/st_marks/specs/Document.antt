-- The document: what stands where, with every cell that was ever made. It is a record of functions from names, so two
-- documents that answer alike for each name are equal. Of a name that isn't among the nodes, a sound document says that
-- it is nowhere and has no cells, and that its registers are empty.
use Rattle.std.specs.Prelude.{◌≡◌, ◌≢◌, ◌↔◌, ◌<◌, ◌^◌, ℕ, zero, suc, Bool, false, List, [], ◌∷◌, map, length, Option, Some, None, IsSome, option_and_then}
use Rattle.std.specs.List.{last_or}
use Rattle.st_ids.specs.Listing.{AreDistinct, Has}
use Rattle.st_ids.specs.Order.{same_cell}
use Rattle.st_ids.specs.declared.names.CellId.{CellId}
use Rattle.st_ids.specs.declared.names.FieldId.{FieldId}
use Rattle.st_ids.specs.declared.names.Leaf.{Leaf}
use Rattle.st_ids.specs.declared.names.NodeId.{NodeId}
use Rattle.st_ids.specs.declared.names.Rev.{Rev}
use Rattle.st_marks.specs.declared.intents.Owned.{Owned}
use Rattle.st_marks.specs.declared.places.Slot.{Slot}
use Rattle.st_marks.specs.declared.places.Spot.{Spot}
use Rattle.st_marks.specs.declared.schemas.SchemaEntry.{SchemaEntry}
use Rattle.st_ids.specs.Root.{opening, root}

-- the first of a list
abbrev pub first_of : {A : Type 0} → List A → Option A
first_of [] = None
first_of (x ∷ xs) = Some x

-- the last of a list
abbrev pub last_of : {A : Type 0} → List A → Option A
last_of xs = last_or None xs

-- ## Its parts

-- what a node is: its type, and its value if it is a leaf
pub record NodeType : Type 0 where
  pub ty : List ℕ
  pub leaf : Option Leaf

-- the document, as functions from names
pub record Document : Type 0 where
  -- the nodes there are
  pub nodes : NodeId → Option NodeType
  -- of each node, all cells ever made in its row, in order, each with its owner
  pub rows : NodeId → List Owned
  -- the node in whose row a cell is
  pub row_of : CellId → Option NodeId
  -- where a node stands
  pub place : NodeId → Spot
  -- which node stands in a register
  pub held : FieldId → Option NodeId
  -- the schema entries in effect, in order
  pub schemas : List SchemaEntry

-- ## What stands above what

-- the node in whose row or register a place is
abbrev pub node_of : Spot → Option NodeId
node_of Spot.Nowhere = None
node_of (Spot.Row n c) = Some n
node_of (Spot.Register f) = Some f.node

-- the node above
abbrev pub above : Document → NodeId → Option NodeId
above D n = node_of (D.place n)

-- the node that so many steps up lead to, where `up` is one step
abbrev pub climb : (NodeId → Option NodeId) → ℕ → NodeId → Option NodeId
climb up zero n = Some n
climb up (suc k) n = option_and_then (climb up k) (up n)

-- some steps up, at least one, lead from one node to another, where `up` is one step
abbrev pub Reaches : (NodeId → Option NodeId) → NodeId → NodeId → Type 0
Reaches up n m = (k : ℕ) × (climb up (suc k) n ≡ Some m)

-- a stands above n, directly or further up
abbrev pub IsAncestor : Document → NodeId → NodeId → Type 0
IsAncestor D a n = (k : ℕ) × (climb (above D) (suc k) n ≡ Some a)

-- the root, or a node beneath it
abbrev pub IsLive : Document → NodeId → Type 0
IsLive D n = (k : ℕ) × (climb (above D) k n ≡ Some root)

-- going up from a node comes to an end
abbrev pub ClimbsToAnEnd : (NodeId → Option NodeId) → NodeId → Type 0
ClimbsToAnEnd up n = (k : ℕ) × (climb up k n ≡ None)

-- ## What a row shows

-- whether a place is that cell
abbrev pub is_cell : CellId → Spot → Bool
is_cell c Spot.Nowhere = false
is_cell c (Spot.Row n d) = same_cell c d
is_cell c (Spot.Register f) = false

-- a cell is full where its owner's place is that cell
abbrev pub slot : Document → Owned → Slot
slot D o = record { cell = o.cell; node = o.node; full = is_cell o.cell (D.place o.node) }

-- a row's cells, and which are full
abbrev pub content : Document → NodeId → List Slot
content D n = map (slot D) (D.rows n)

-- ## What makes a document sound in form

-- the revisions of schema entries
abbrev pub revs : List SchemaEntry → List Rev
revs entries = map (λ (e : SchemaEntry). e.rev) entries

-- entries that can be in effect together: the opening's is the first, and no revision is there twice
pub record CanBeInEffect (entries : List SchemaEntry) : Type 0 where
  pub begun : first_of (revs entries) ≡ Some opening
  pub once : AreDistinct (λ (e : SchemaEntry). e.rev) entries

-- a cell with its owner
abbrev pub owned_cell : CellId → NodeId → Owned
owned_cell c m = record { cell = c; node = m }

-- each row has fewer than 2^32 cells
abbrev pub HasShortRows : Document → Type 0
HasShortRows D = (n : NodeId) → length (D.rows n) < 2 ^ 32

-- what holds of each document that is reached from an opening one
pub record IsSoundInForm (D : Document) : Type 0 where
  -- the root is there, and stands nowhere
  pub root_known : IsSome (D.nodes root)
  pub root_nowhere : D.place root ≡ Spot.Nowhere
  -- each cell is in one row, and there once
  pub one_row : (c : CellId) (n : NodeId) → (D.row_of c ≡ Some n) ↔ ((m : NodeId) × Has (D.rows n) (owned_cell c m))
  pub once : (n : NodeId) → AreDistinct (λ (o : Owned). o.cell) (D.rows n)
  pub short : HasShortRows D
  -- a node in a row owns its cell
  pub own_cell : (m n : NodeId) (c : CellId) → D.place m ≡ Spot.Row n c → Has (D.rows n) (owned_cell c m)
  -- a register holds the one node whose place it is
  pub one_held : (m : NodeId) (f : FieldId) → (D.held f ≡ Some m) ↔ (D.place m ≡ Spot.Register f)
  -- what has cells, owns one, has a register that is a place, or stands in one, is there
  pub cells_known : (n : NodeId) (o : Owned) → Has (D.rows n) o → IsSome (D.nodes n) × IsSome (D.nodes o.node)
  pub held_known : (m : NodeId) (f : FieldId) → D.held f ≡ Some m → IsSome (D.nodes m) × IsSome (D.nodes f.node)
  pub register_key : (m : NodeId) (f : FieldId) → D.held f ≡ Some m → f.key.0 ≢ []
  -- from each node the places lead up to a node that is nowhere
  pub no_ring : (n : NodeId) → ClimbsToAnEnd (above D) n
  -- its schema entries can be in effect together
  pub in_effect : CanBeInEffect D.schemas
