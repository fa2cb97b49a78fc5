-- The JSON form of a tree: a leaf is a null, a truth value, a whole number or a text; another node is an object with one
-- member, its type's name, which holds an array of trees for an array node, and else an object from keys to trees.
use Rattle.std.specs.Prelude.{ℕ, ◌-◌, List, [], ◌∷◌, length, is_ok, Bool, true, false, ◌&&◌, nat_le, is_some, Option, None, Some, option_map, option_and_then, if◌then◌else◌}
use Rattle.st_ids.specs.declared.names.Leaf.{Leaf}
use Rattle.st_ids.specs.declared.names.Leaf.TheVariants as leaf
use Rattle.serde_json.specs.Data.{Data, null, boolean, number, string, array, object, Items, no_items, item, Members, no_members, member}
use Rattle.serde_json.specs.Find.{as_i64, of_integer}
use Rattle.st_tree.specs.Node.{Node, node, Fields, no_fields, field, Nodes, no_nodes, first, FieldNode, nodes_of, fields_of}
use Rattle.st_tree.specs.Size.{check_of}
use Rattle.st_schema.specs.Schema.{same}
use Rattle.st_schema.specs.Conforms.{leaf_type}
use Rattle.st_ids.specs.LeafText.{leaf_data}

abbrev mutual
  pub tree_data : Node → Data
  tree_data (node ty (Some v) fs) = leaf_data v
  tree_data (node ty None fs) = object (member ty (body_data fs) no_members)

  -- what stands under the type's name
  pub body_data : Fields → Data
  body_data no_fields = object no_members
  body_data (field key true items rest) = array (trees_data items)
  body_data (field key false items rest) = object (keyed_data key items (members_data rest))

  -- a field of one item is a member
  pub keyed_data : List ℕ → Nodes → Members → Members
  keyed_data key no_nodes ms = ms
  keyed_data key (first t ts) ms = member key (tree_data t) ms

  pub members_data : Fields → Members
  members_data no_fields = no_members
  members_data (field key row items rest) = keyed_data key items (members_data rest)

  pub trees_data : Nodes → Items
  trees_data no_nodes = no_items
  trees_data (first t ts) = item (tree_data t) (trees_data ts)

-- ---- what is read

-- the value of a leaf
abbrev pub leaf_of : Data → Option Leaf
leaf_of null = Some leaf.Null
leaf_of (boolean b) = Some (leaf.Bool b)
leaf_of (number x) = option_map leaf.Int (as_i64 x)
leaf_of (string s) = Some (leaf.Words s)
leaf_of (array ds) = None
leaf_of (object ms) = None

abbrev pub leaf_node : Leaf → Node
leaf_node v = node (leaf_type v) (Some v) no_fields

-- a leaf, where a level is left for it
abbrev pub leaf_in : Data → ℕ → Option Node
leaf_in d n = if nat_le 1 n then option_map leaf_node (leaf_of d) else None

-- the tree that a value shows, with at most so many levels
abbrev mutual
  pub tree_in : Data → ℕ → Option Node
  tree_in null n = leaf_in null n
  tree_in (boolean b) n = leaf_in (boolean b) n
  tree_in (number x) n = leaf_in (number x) n
  tree_in (string s) n = leaf_in (string s) n
  tree_in (array ds) n = None
  tree_in (object ms) n = if nat_le 1 n then node_in ms (n - 1) else None

  -- exactly one member, whose name is the type
  pub node_in : Members → ℕ → Option Node
  node_in no_members n = None
  node_in (member ty d no_members) n = option_map (node ty None) (body_in d n)
  node_in (member ty d (member k e ms)) n = None

  -- the row of an array node, or the fields of another
  pub body_in : Data → ℕ → Option Fields
  body_in null n = None
  body_in (boolean b) n = None
  body_in (number x) n = None
  body_in (string s) n = None
  body_in (array ds) n = option_map (λ ts. field [] true (nodes_of ts) no_fields) (trees_in ds n)
  body_in (object ms) n = option_map fields_of (fields_in ms n)

  pub trees_in : Items → ℕ → Option (List Node)
  trees_in no_items n = Some []
  trees_in (item d ds) n = option_and_then (λ t. option_map (λ ts. t ∷ ts) (trees_in ds n)) (tree_in d n)

  -- each member is a field of one item, under a key of at most 64 bytes
  pub fields_in : Members → ℕ → Option (List FieldNode)
  fields_in no_members n = Some []
  fields_in (member key d ms) n = if nat_le (length key) 64
      then option_and_then (λ t. option_map (λ fs. record { key = key; row = false; items = first t no_nodes } ∷ fs) (fields_in ms n)) (tree_in d n) else None

-- a tree within the limits
abbrev pub within_limits : Node → Option Node
within_limits t = if is_ok (check_of t) then Some t else None

-- the tree that a value shows, within the limits of trees
abbrev pub tree_of : Data → Option Node
tree_of d = option_and_then within_limits (tree_in d 48)

-- ---- what the form of a tree has to be, so that it is read as that tree

-- a whole number of 64 bits
abbrev pub leaf_fits : Leaf → Bool
leaf_fits leaf.Null = true
leaf_fits (leaf.Bool b) = true
leaf_fits (leaf.Int n) = is_some (as_i64 (of_integer n))
leaf_fits (leaf.Words w) = true

-- each leaf has the type of its value, and each key at most 64 bytes
abbrev mutual
  pub is_typed : Node → Bool
  is_typed (node ty (Some v) fs) = same ty (leaf_type v) && (leaf_fits v && fields_typed fs)
  is_typed (node ty None fs) = fields_typed fs

  pub fields_typed : Fields → Bool
  fields_typed no_fields = true
  fields_typed (field key row items rest) = nat_le (length key) 64 && (all_typed items && fields_typed rest)

  pub all_typed : Nodes → Bool
  all_typed no_nodes = true
  all_typed (first t ts) = is_typed t && all_typed ts
