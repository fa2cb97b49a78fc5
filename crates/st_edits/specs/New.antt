-- New trees, as their list of nodes in preorder, and what an intent has for them.
use Rattle.std.specs.Prelude.{ℕ, ◌+◌, Bool, true, false, List, [], ◌∷◌, map, Option, Some, None, if◌then◌else◌}
use Rattle.std.specs.List.{filter_map}
use Rattle.st_ids.specs.Order.{same_node}
use Rattle.st_ids.specs.declared.names.CellId.{CellId}
use Rattle.st_ids.specs.declared.names.FieldId.{FieldId}
use Rattle.st_ids.specs.declared.names.NodeId.{NodeId}
use Rattle.st_tree.specs.declared.flat.FlatAt.{FlatAt}
use Rattle.st_tree.specs.declared.flat.FlatAt.TheVariants.{Root, Top, Row, Register}
use Rattle.st_tree.specs.declared.flat.FlatNode.{FlatNode}
use Rattle.st_marks.specs.declared.changes.NewNode.{NewNode}
use Rattle.st_marks.specs.declared.intents.Group.{Group}
use Rattle.st_marks.specs.declared.intents.Owned.{Owned}
use Rattle.st_marks.specs.declared.intents.Put.{Put}
use Rattle.st_marks.specs.declared.intents.To.{To}
use Rattle.st_marks.specs.Document.{owned_cell}

-- the nodes with their types and values
abbrev pub new_nodes : List FlatNode → List NewNode
new_nodes xs = map (λ (x : FlatNode). record { node = x.node; ty = x.ty; leaf = x.leaf }) xs

-- where a top item goes: into its cell, or into a register
abbrev pub top_to : Option FieldId → CellId → To
top_to None c = To.Cell c
top_to (Some f) c = To.Register f

-- where a node goes
abbrev pub to_at : Option FieldId → FlatAt → To
to_at into Root = To.Nowhere
to_at into (Top c) = top_to into c
to_at into (Row n c) = To.Cell c
to_at into (Register f) = To.Register f

-- each node is put where it stands
abbrev pub puts : Option FieldId → List FlatNode → List Put
puts into xs = map (λ (x : FlatNode). record { node = x.node; to = to_at into x.at }) xs

-- the cell of a top item
abbrev pub top_cell : FlatAt → Option CellId
top_cell Root = None
top_cell (Top c) = Some c
top_cell (Row n c) = None
top_cell (Register f) = None

-- the cell in a node's row
abbrev pub row_cell : NodeId → FlatAt → Option CellId
row_cell n Root = None
row_cell n (Top c) = None
row_cell n (Row m c) = if same_node m n then Some c else None
row_cell n (Register f) = None

-- a cell with the node that owns it
abbrev pub owned_by : NodeId → Option CellId → Option Owned
owned_by n None = None
owned_by n (Some c) = Some (owned_cell c n)

-- the cells of the top items
abbrev pub top_cells : List FlatNode → List Owned
top_cells xs = filter_map (λ (x : FlatNode). owned_by x.node (top_cell x.at)) xs

-- the cells of a new node's row
abbrev pub cells_under : List FlatNode → NodeId → List Owned
cells_under xs n = filter_map (λ (x : FlatNode). owned_by x.node (row_cell n x.at)) xs

-- a group of cells, if there are any
abbrev pub group_of : NodeId → Option CellId → List Owned → Option Group
group_of n after [] = None
group_of n after (o ∷ os) = Some (record { node = n; after = after; cells = o ∷ os })

-- the row of a new array node
abbrev pub group_under : List FlatNode → FlatNode → Option Group
group_under xs x = if x.row then group_of x.node None (cells_under xs x.node) else None

-- the rows of the new array nodes
abbrev pub groups_under : List FlatNode → List Group
groups_under xs = filter_map (group_under xs) xs

-- whether a node takes a cell
abbrev pub takes_cell : FlatAt → Bool
takes_cell Root = false
takes_cell (Top c) = true
takes_cell (Row n c) = true
takes_cell (Register f) = false

-- how many names the nodes take, for themselves and for their cells
abbrev pub names_taken : List FlatNode → ℕ
names_taken [] = 0
names_taken (x ∷ xs) = (if takes_cell x.at then 2 else 1) + names_taken xs
