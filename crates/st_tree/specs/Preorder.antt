-- The nodes of a tree in preorder, under names that are counted up.
use Rattle.std.specs.Prelude.{ℕ, ◌+◌, List, [], ◌∷◌, ◌++◌, Bool, true, false, if◌then◌else◌}
use Rattle.st_ids.specs.declared.names.Rev.{Rev}
use Rattle.st_ids.specs.declared.names.NodeId.{NodeId}
use Rattle.st_ids.specs.declared.names.CellId.{CellId}
use Rattle.st_tree.specs.Node.{Node, node, Fields, no_fields, field, Nodes, no_nodes, first}
use Rattle.st_tree.specs.Size.{node_count, item_count}
use Rattle.st_tree.specs.declared.flat.FlatAt.{FlatAt}
use Rattle.st_tree.specs.declared.flat.FlatAt.TheVariants.{Root, Top, Row, Register}
use Rattle.st_tree.specs.declared.flat.FlatNode.{FlatNode}

abbrev pub node_named : Rev → ℕ → NodeId
node_named rev n = record { 0 = record { rev = rev; at = n } }

abbrev pub cell_named : Rev → ℕ → CellId
cell_named rev c = record { 0 = record { rev = rev; at = c } }

-- how many cells an item takes for its own place: one in a row
abbrev pub cells_taken : Bool → ℕ
cells_taken row = if row then 1 else 0

-- how many cells the nodes below a node take
abbrev mutual
  pub cell_count : Node → ℕ
  cell_count (node ty leaf fields) = field_cells fields

  pub field_cells : Fields → ℕ
  field_cells no_fields = 0
  field_cells (field key row items rest) = item_cells row items + field_cells rest

  pub item_cells : Bool → Nodes → ℕ
  item_cells row no_nodes = 0
  item_cells row (first t ts) = cells_taken row + cell_count t + item_cells row ts

-- an array node keeps its items in a row
abbrev pub is_array : Fields → Bool
is_array no_fields = false
is_array (field key row items rest) = row

-- where an item of a field stands, the next cell's number being c
abbrev pub at_of : Rev → ℕ → List ℕ → Bool → ℕ → FlatAt
at_of rev owner key true c = Row (node_named rev owner) (cell_named rev c)
at_of rev owner key false c = Register (record { node = node_named rev owner; key = record { 0 = key } })

-- a tree's nodes: its own node has the number n and stands at that place, the next cell has the number c
abbrev mutual
  pub tree_listed : Rev → FlatAt → ℕ → ℕ → Node → List FlatNode
  tree_listed rev at n c (node ty leaf fields) = record { node = node_named rev n; ty = ty; leaf = leaf; row = is_array fields; at = at } ∷ fields_listed rev n (n + 1) c fields

  pub fields_listed : Rev → ℕ → ℕ → ℕ → Fields → List FlatNode
  fields_listed rev owner n c no_fields = []
  fields_listed rev owner n c (field key row items rest) = items_listed rev owner key row n c items ++ fields_listed rev owner (n + item_count items) (c + item_cells row items) rest

  pub items_listed : Rev → ℕ → List ℕ → Bool → ℕ → ℕ → Nodes → List FlatNode
  items_listed rev owner key row n c no_nodes = []
  items_listed rev owner key row n c (first t ts) = tree_listed rev (at_of rev owner key row c) n (c + cells_taken row) t
      ++ items_listed rev owner key row (n + node_count t) (c + (cells_taken row + cell_count t)) ts

-- the nodes of trees that are top items, each of which takes a cell
abbrev pub tops_listed : Rev → ℕ → ℕ → Nodes → List FlatNode
tops_listed rev n c no_nodes = []
tops_listed rev n c (first t ts) = tree_listed rev (Top (cell_named rev c)) n (c + 1) t ++ tops_listed rev (n + node_count t) (c + (1 + cell_count t)) ts

-- the nodes of the opening tree, whose root takes no cell
abbrev pub opening_listed : Node → List FlatNode
opening_listed t = tree_listed (record { session = 0; num = 0 }) Root 0 0 t
