-- Trees built back from the list of their nodes, which is read from its end: a tree waits, with the place where it
-- stands, until the node above it comes.
use Rattle.std.specs.Prelude.{ℕ, List, [], ◌∷◌, Bool, true, false, map, reverse, if◌then◌else◌}
use Rattle.std.specs.Ordering.{is_eq}
use Rattle.st_ids.specs.declared.names.NodeId.{NodeId}
use Rattle.st_ids.specs.Order.{node_cmp}
use Rattle.st_tree.specs.Node.{Node, node, Fields, no_fields, field, no_nodes, first, FieldNode, nodes_of, fields_of, view}
use Rattle.st_tree.specs.declared.flat.FlatAt.{FlatAt}
use Rattle.st_tree.specs.declared.flat.FlatAt.TheVariants.{Root, Top, Row, Register}
use Rattle.st_tree.specs.declared.flat.FlatNode.{FlatNode}
use Rattle.st_tree.specs.declared.rebuild.Placed.{Placed}

-- a tree and its place
abbrev pub Waiting : Type 0
Waiting = FlatAt × Node

-- the place is directly below the node
abbrev pub is_below : NodeId → FlatAt → Bool
is_below n Root = false
is_below n (Top c) = false
is_below n (Row m c) = is_eq (node_cmp m n)
is_below n (Register f) = is_eq (node_cmp f.node n)

-- the first of what waits is directly below the node
abbrev pub first_is_below : NodeId → List Waiting → Bool
first_is_below n [] = false
first_is_below n (w ∷ ws) = is_below n w.0

-- the first trees that wait for the node
abbrev pub fields_of_node : NodeId → List Waiting → List Waiting
fields_of_node n [] = []
fields_of_node n (w ∷ ws) = if is_below n w.0 then w ∷ fields_of_node n ws else []

-- what waits behind them
abbrev pub fields_of_others : NodeId → List Waiting → List Waiting
fields_of_others n [] = []
fields_of_others n (w ∷ ws) = if is_below n w.0 then fields_of_others n ws else w ∷ ws

abbrev pub key_at : FlatAt → List ℕ
key_at Root = []
key_at (Top c) = []
key_at (Row m c) = []
key_at (Register f) = f.key.0

-- a tree under the key at which it stands
abbrev pub named_field : Waiting → FieldNode
named_field w = record { key = key_at w.0; row = false; items = first w.1 no_nodes }

-- the fields of a node above these trees, which are its row if it is an array node
abbrev pub fields_above : Bool → List Waiting → Fields
fields_above true ws = field [] true (nodes_of (map (λ w. w.1) ws)) no_fields
fields_above false ws = fields_of (map named_field ws)

-- the node takes the trees that wait for it, and waits itself
abbrev pub with_parent : FlatNode → List Waiting → List Waiting
with_parent x ws = (x.at, node x.ty x.leaf (fields_above x.row (fields_of_node x.node ws))) ∷ fields_of_others x.node ws

abbrev pub trees_rebuilt : List FlatNode → List Waiting
trees_rebuilt [] = []
trees_rebuilt (x ∷ xs) = with_parent x (trees_rebuilt xs)

-- what waits in the program, where the first stands last
abbrev pub waiting_view : List Placed → List Waiting
waiting_view ps = reverse (map (λ p. (p.at, view p.tree)) ps)
