-- Documents in which each node has what a node of its type has, and intents that keep them so.
use Rattle.std.specs.Prelude.{◌≡◌, ℕ, Bool, true, false, List, Some, None}
use Rattle.st_ids.specs.Listing.{Has}
use Rattle.st_ids.specs.declared.names.FieldId.{FieldId}
use Rattle.st_ids.specs.declared.names.Leaf.{Leaf}
use Rattle.st_ids.specs.declared.names.NodeId.{NodeId}
use Rattle.st_schema.specs.Conforms.{leaf_type}
use Rattle.st_marks.specs.declared.intents.Group.{Group}
use Rattle.st_marks.specs.declared.intents.Intent.{Intent}
use Rattle.st_marks.specs.declared.intents.Owned.{Owned}
use Rattle.st_marks.specs.declared.intents.Put.{Put}
use Rattle.st_marks.specs.declared.intents.To.{To}
use Rattle.st_marks.specs.Document.{Document, NodeType}
use Rattle.st_marks.specs.Intent.{new_type}
use Rattle.st_marks.specs.CarryOut.{with_names}

-- a node that has a row
abbrev pub IsRowType : (List ℕ → Bool) → NodeType → Type 0
IsRowType is_array t = (t.leaf ≡ None) × (is_array t.ty ≡ true)

-- a node that has registers
abbrev pub IsFieldType : (List ℕ → Bool) → NodeType → Type 0
IsFieldType is_array t = (t.leaf ≡ None) × (is_array t.ty ≡ false)

-- a leaf has the type of its value
abbrev pub IsLeafTyped : NodeType → Type 0
IsLeafTyped t = (v : Leaf) → t.leaf ≡ Some v → t.ty ≡ leaf_type v

-- leaves have the types of their values, cells are in the rows of nodes that have one, and registers that hold something are
-- those of nodes that have registers
pub record IsAsTyped (is_array : List ℕ → Bool) (D : Document) : Type 0 where
  pub leaves : (n : NodeId) (t : NodeType) → D.nodes n ≡ Some t → IsLeafTyped t
  pub cells : (n : NodeId) (o : Owned) (t : NodeType) → D.nodes n ≡ Some t → Has (D.rows n) o → IsRowType is_array t
  pub registers : (f : FieldId) (m : NodeId) (t : NodeType) → D.nodes f.node ≡ Some t → D.held f ≡ Some m → IsFieldType is_array t

-- an intent makes and fills no others, by the types of the document's nodes and of its own new ones
pub record IsTypedIntent (is_array : List ℕ → Bool) (D : Document) (N : Intent) : Type 0 where
  pub leaves : (n : NodeId) (t : NodeType) → new_type N n ≡ Some t → IsLeafTyped t
  pub groups : (g : Group) (t : NodeType) → Has N.groups g → (with_names D N).nodes g.node ≡ Some t → IsRowType is_array t
  pub puts : (p : Put) (f : FieldId) (t : NodeType) → Has N.put p → p.to ≡ To.Register f → (with_names D N).nodes f.node ≡ Some t → IsFieldType is_array t
