-- The opening document of a tree, told from the list of its nodes in preorder.
use Rattle.std.specs.Prelude.{ℕ, List, [], ◌∷◌, Option, Some, None, unwrap_or, if◌then◌else◌}
use Rattle.std.specs.List.{filter_map}
use Rattle.std.specs.Option.{option_or}
use Rattle.st_ids.specs.Order.{same_node, same_cell, same_field}
use Rattle.st_ids.specs.declared.names.CellId.{CellId}
use Rattle.st_ids.specs.declared.names.FieldId.{FieldId}
use Rattle.st_ids.specs.declared.names.NodeId.{NodeId}
use Rattle.st_marks.specs.declared.intents.Owned.{Owned}
use Rattle.st_marks.specs.declared.places.Spot.{Spot}
use Rattle.st_marks.specs.Document.{Document, NodeType, owned_cell}
use Rattle.st_ids.specs.Root.{opening}
use Rattle.st_tree.specs.declared.flat.FlatAt.{FlatAt}
use Rattle.st_tree.specs.declared.flat.FlatNode.{FlatNode}

-- what the first node that says anything says
abbrev pub first_said : {A B : Type 0} → (A → Option B) → List A → Option B
first_said say [] = None
first_said say (x ∷ xs) = option_or (say x) (first_said say xs)

-- what a node of the list is
abbrev pub type_at : NodeId → FlatNode → Option NodeType
type_at n x = if same_node x.node n then Some (record { ty = x.ty; leaf = x.leaf }) else None

-- a place of the list as one of the document
abbrev pub spot_at : FlatAt → Spot
spot_at FlatAt.Root = Spot.Nowhere
spot_at (FlatAt.Top c) = Spot.Nowhere
spot_at (FlatAt.Row n c) = Spot.Row n c
spot_at (FlatAt.Register f) = Spot.Register f

-- where it stands
abbrev pub place_at : NodeId → FlatNode → Option Spot
place_at n x = if same_node x.node n then Some (spot_at x.at) else None

-- in whose row a cell is, if the place is that cell
abbrev pub row_at : CellId → FlatAt → Option NodeId
row_at c FlatAt.Root = None
row_at c (FlatAt.Top d) = None
row_at c (FlatAt.Row n d) = if same_cell d c then Some n else None
row_at c (FlatAt.Register f) = None

-- the cell in a node's row, if a node m stands there
abbrev pub cell_at : NodeId → NodeId → FlatAt → Option Owned
cell_at n m FlatAt.Root = None
cell_at n m (FlatAt.Top c) = None
cell_at n m (FlatAt.Row r c) = if same_node r n then Some (owned_cell c m) else None
cell_at n m (FlatAt.Register f) = None

-- the node m, if it stands in the register
abbrev pub held_at : FieldId → NodeId → FlatAt → Option NodeId
held_at f m FlatAt.Root = None
held_at f m (FlatAt.Top c) = None
held_at f m (FlatAt.Row n c) = None
held_at f m (FlatAt.Register g) = if same_field g f then Some m else None

-- each node is what the list says, and stands there; a row's cells are in the order of the list; one schema is in effect
abbrev pub start_of : List FlatNode → List ℕ → Document
start_of xs schema = record {
  nodes = λ n. first_said (type_at n) xs;
  rows = λ n. filter_map (λ (x : FlatNode). cell_at n x.node x.at) xs;
  row_of = λ c. first_said (λ (x : FlatNode). row_at c x.at) xs;
  place = λ n. unwrap_or (first_said (place_at n) xs) Spot.Nowhere;
  held = λ f. first_said (λ (x : FlatNode). held_at f x.node x.at) xs;
  schemas = record { rev = opening; text = schema } ∷ [];
}

-- the register in which a place is
abbrev pub register_at : FlatAt → Option FieldId
register_at FlatAt.Root = None
register_at (FlatAt.Top c) = None
register_at (FlatAt.Row n c) = None
register_at (FlatAt.Register f) = Some f

-- the registers in which nodes stand
abbrev pub registers : List FlatNode → List FieldId
registers xs = filter_map (λ (x : FlatNode). register_at x.at) xs
