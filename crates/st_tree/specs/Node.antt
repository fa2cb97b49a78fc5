-- A tree as contracts see it: a node has a type, a leaf's value or none, and fields in order, each with a key,
-- whether it is a row, and items in order.
use Rattle.std.specs.Prelude.{ℕ, List, [], ◌∷◌, Bool, Option, map}
use Rattle.st_ids.specs.declared.names.Leaf.{Leaf}
use Rattle.st_tree.specs.declared.tree.Tree.{Tree, fold-Tree}
use Rattle.st_tree.specs.declared.tree.Field.TheOpen.{Field-F, Tree-F}

mutual
  pub data Node : Type 0 where
    node : List ℕ → Option Leaf → Fields → Node

  pub data Fields : Type 0 where
    no_fields : Fields
    field : List ℕ → Bool → Nodes → Fields → Fields

  pub data Nodes : Type 0 where
    no_nodes : Nodes
    first : Node → Nodes → Nodes

-- one field
pub record FieldNode : Type 0 where
  pub key : List ℕ
  pub row : Bool
  pub items : Nodes

abbrev pub nodes_of : List Node → Nodes
nodes_of [] = no_nodes
nodes_of (t ∷ ts) = first t (nodes_of ts)

abbrev pub fields_of : List FieldNode → Fields
fields_of [] = no_fields
fields_of (f ∷ fs) = field f.key f.row f.items (fields_of fs)

-- one level, with what is below it already seen
abbrev pub field_step : Field-F FieldNode Node → FieldNode
field_step f = record { key = f.key.0; row = f.row; items = nodes_of f.items }

abbrev pub tree_step : Tree-F FieldNode Node → Node
tree_step t = node t.ty t.leaf (fields_of t.fields)

-- a tree of the program, seen so
abbrev pub view : Tree → Node
view = fold-Tree FieldNode Node field_step tree_step

abbrev pub trees_view : List Tree → Nodes
trees_view ts = nodes_of (map view ts)
