-- The shape of a tree that a value shows: a leaf has no fields, an array node has one row under the empty key, and another
-- node has single items under keys that rise in byte order. It is the form of trees, but that the first key may be empty.
use Rattle.std.specs.Prelude.{Bool, true, false, not, ◌&&◌, ◌||◌, Option, None, Some}
use Rattle.st_ids.specs.declared.names.Leaf.{Leaf}
use Rattle.st_tree.specs.Form.{is_row_alone, is_single, keys_rise}
use Rattle.st_tree.specs.Node.{Node, node, Fields, no_fields, field, Nodes, no_nodes, first}

-- single items under keys that rise, whatever the first key is
abbrev pub members_rise : Fields → Bool
members_rise no_fields = true
members_rise (field key row items rest) = not row && (is_single items && keys_rise key rest)

-- the fields are such as a value shows under a node with this leaf's value, or none
abbrev pub fields_shaped : Option Leaf → Fields → Bool
fields_shaped (Some v) no_fields = true
fields_shaped (Some v) (field key row items rest) = false
fields_shaped None fields = is_row_alone fields || members_rise fields

-- a tree has the shape, with all below it
abbrev mutual
  pub has_shape : Node → Bool
  has_shape (node ty leaf fields) = fields_shaped leaf fields && fields_have_shape fields

  pub fields_have_shape : Fields → Bool
  fields_have_shape no_fields = true
  fields_have_shape (field key row items rest) = all_have_shape items && fields_have_shape rest

  pub all_have_shape : Nodes → Bool
  all_have_shape no_nodes = true
  all_have_shape (first t ts) = has_shape t && all_have_shape ts
