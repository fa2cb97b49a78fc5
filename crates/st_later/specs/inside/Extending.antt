-- Tests of what a later document keeps of an earlier one.
use Rattle.std.specs.Prelude.{Bool, true, false, ◌&&◌, ◌+◌, nat_eq, ℕ, List, [], ◌∷◌, Option, option_map, option_and_then, slice_get, if◌then◌else◌}
use Rattle.std.specs.Bool.{beq}
use Rattle.std.specs.Option.{option_map_or}
use Rattle.std.specs.Ordering.{int_eq}
use Rattle.std.specs.Cmp.Lexicographic.{pointwise}
use Rattle.st_ids.specs.Order.{same_cell, same_node, same_rev}
use Rattle.st_ids.specs.declared.names.Leaf.{Leaf}
use Rattle.st_ids.specs.declared.names.NodeId.{NodeId}
use Rattle.st_marks.specs.declared.intents.Owned.{Owned}
use Rattle.st_marks.specs.declared.schemas.SchemaEntry.{SchemaEntry}
use Rattle.st_marks.specs.Document.{Document, NodeType, first_of}
use Rattle.st_marks.specs.Intent.{same_option}

-- whether two texts have the same bytes
abbrev pub same_text : List ℕ → List ℕ → Bool
same_text a b = pointwise nat_eq a b

-- whether two leaves have one value
abbrev pub same_value : Leaf → Leaf → Bool
same_value Leaf.Null Leaf.Null = true
same_value Leaf.Null (Leaf.Bool b) = false
same_value Leaf.Null (Leaf.Int j) = false
same_value Leaf.Null (Leaf.Words u) = false
same_value (Leaf.Bool a) Leaf.Null = false
same_value (Leaf.Bool a) (Leaf.Bool b) = beq a b
same_value (Leaf.Bool a) (Leaf.Int j) = false
same_value (Leaf.Bool a) (Leaf.Words u) = false
same_value (Leaf.Int i) Leaf.Null = false
same_value (Leaf.Int i) (Leaf.Bool b) = false
same_value (Leaf.Int i) (Leaf.Int j) = int_eq i j
same_value (Leaf.Int i) (Leaf.Words u) = false
same_value (Leaf.Words t) Leaf.Null = false
same_value (Leaf.Words t) (Leaf.Bool b) = false
same_value (Leaf.Words t) (Leaf.Int j) = false
same_value (Leaf.Words t) (Leaf.Words u) = same_text t u

-- whether two cells have one name and one owner
abbrev pub same_owned : Owned → Owned → Bool
same_owned a b = same_cell a.cell b.cell && same_node a.node b.node

-- whether two schema entries have one revision and one text
abbrev pub same_entry : SchemaEntry → SchemaEntry → Bool
same_entry a b = same_rev a.rev b.rev && same_text a.text b.text

-- the next cell to look for in a longer row, after one of its cells was looked at
abbrev pub next_after : List Owned → ℕ → Owned → ℕ
next_after xs next y = if option_map_or (λ x. same_owned x y) (slice_get xs next) false then next + 1 else next

-- whether each cell of a row is in another, in the same order
abbrev pub is_sublist : List Owned → List Owned → Bool
is_sublist [] ys = true
is_sublist (x ∷ xs) [] = false
is_sublist (x ∷ xs) (y ∷ ys) = if same_owned x y then is_sublist xs ys else is_sublist (x ∷ xs) ys

-- the type of a node, if it is there
abbrev pub type_of : Document → NodeId → Option (List ℕ)
type_of D n = option_map (λ (t : NodeType). t.ty) (D.nodes n)

-- the value of a node, if it is there and is a leaf
abbrev pub leaf_of : Document → NodeId → Option Leaf
leaf_of D n = option_and_then (λ (t : NodeType). t.leaf) (D.nodes n)

-- whether a node is what it was, and its row has all the cells that it had, in the same order
abbrev pub keeps_node : Document → Document → NodeId → Bool
keeps_node D E n = same_option same_text (type_of D n) (type_of E n) && same_option same_value (leaf_of D n) (leaf_of E n) && is_sublist (D.rows n) (E.rows n)

-- whether both begin with the same schema entry
abbrev pub begin_alike : Document → Document → Bool
begin_alike D E = same_option same_entry (first_of D.schemas) (first_of E.schemas)
