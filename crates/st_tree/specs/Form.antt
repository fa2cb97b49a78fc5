-- The form of trees: a leaf has no fields, an array node has one row under the empty key, and another node has single
-- items under keys that rise in byte order and are not empty.
use Rattle.std.specs.Prelude.{ℕ, List, [], length, Bool, true, false, not, ◌&&◌, ◌||◌, ◌==◌, Option, None, Some}
use Rattle.std.specs.Ordering.{nat_cmp, is_lt}
use Rattle.std.specs.Cmp.Lexicographic.{slice_cmp}
use Rattle.st_ids.specs.declared.names.Leaf.{Leaf}
use Rattle.st_tree.specs.Node.{Node, node, Fields, no_fields, field, Nodes, no_nodes, first}

-- one row under the empty key, and no other field
abbrev pub is_row_alone : Fields → Bool
is_row_alone no_fields = false
is_row_alone (field key row items no_fields) = row && (length key == 0)
is_row_alone (field key row items (field key' row' items' rest)) = false

abbrev pub is_single : Nodes → Bool
is_single no_nodes = false
is_single (first t no_nodes) = true
is_single (first t (first u ts)) = false

-- single items under keys above this one, which rise
abbrev pub keys_rise : List ℕ → Fields → Bool
keys_rise before no_fields = true
keys_rise before (field key row items rest) = not row && (is_single items && (is_lt (slice_cmp nat_cmp before key) && keys_rise key rest))

-- the fields fit a node with this leaf's value, or none
abbrev pub fields_fit_leaf : Option Leaf → Fields → Bool
fields_fit_leaf (Some v) no_fields = true
fields_fit_leaf (Some v) (field key row items rest) = false
fields_fit_leaf None fields = is_row_alone fields || keys_rise [] fields

-- a tree is of the form, with all below it
abbrev mutual
  pub has_form : Node → Bool
  has_form (node ty leaf fields) = fields_fit_leaf leaf fields && fields_have_form fields

  pub fields_have_form : Fields → Bool
  fields_have_form no_fields = true
  fields_have_form (field key row items rest) = all_have_form items && fields_have_form rest

  pub all_have_form : Nodes → Bool
  all_have_form no_nodes = true
  all_have_form (first t ts) = has_form t && all_have_form ts
