-- The form of a tree has no floating-point number, and nests at most two levels for each of the tree's.
use Rattle.std.proofs.Common.{◌≡◌, ℕ, ◌+◌, ◌*◌, ◌≤◌, max, true, false, List, None, Some, Ok, refl, arith}
use Rattle.st_ids.specs.declared.names.Leaf.{Leaf}
use Rattle.st_ids.specs.declared.names.Leaf.TheVariants as leaf
use Rattle.serde_json.specs.Data.{Members, depth, items_depth, members_depth}
use Rattle.serde_json.specs.Read.{max_depth}
use Rattle.serde_json.specs.Written.{has_float, items_have_float, members_have_float}
use Rattle.st_tree.specs.Node.{Node, node, Fields, no_fields, field, Nodes, no_nodes, first}
use Rattle.st_tree.specs.Size.{height, fields_height, items_height, check_of}
use Rattle.st_schema.specs.TreeText.{tree_data, body_data, keyed_data, members_data, trees_data}
use Rattle.st_ids.specs.LeafText.{leaf_data}
use Rattle.st_schema.proofs.Shown.{low_within}
use Rattle.st_ids.proofs.LeafTexts.{leaf_no_float}

mutual
  pub tree_plain : (t : Node) → has_float (tree_data t) ≡ false
  tree_plain (node ty (Some v) fs) = leaf_no_float v
  tree_plain (node ty None fs) = rw (body_plain fs) refl

  body_plain : (fs : Fields) → has_float (body_data fs) ≡ false
  body_plain no_fields = refl
  body_plain (field key true items rest) = items_plain items
  body_plain (field key false items rest) = keyed_plain key items (members_data rest) (members_plain rest)

  keyed_plain : (key : List ℕ) (items : Nodes) (ms : Members) → members_have_float ms ≡ false → members_have_float (keyed_data key items ms) ≡ false
  keyed_plain key no_nodes ms h = h
  keyed_plain key (first t ts) ms h = rw (tree_plain t) h

  members_plain : (fs : Fields) → members_have_float (members_data fs) ≡ false
  members_plain no_fields = refl
  members_plain (field key row items rest) = keyed_plain key items (members_data rest) (members_plain rest)

  items_plain : (ts : Nodes) → items_have_float (trees_data ts) ≡ false
  items_plain no_nodes = refl
  items_plain (first t ts) = rw (tree_plain t) (items_plain ts)

leaf_flat : (v : Leaf) → depth (leaf_data v) ≤ 0
leaf_flat leaf.Null = omega arith
leaf_flat (leaf.Bool b) = omega arith
leaf_flat (leaf.Int z) = omega arith
leaf_flat (leaf.Words w) = omega arith

-- at most two levels for each of the tree's
mutual
  pub tree_low : (t : Node) → depth (tree_data t) ≤ 2 * height t
  tree_low (node ty (Some v) fs) = omega (arith, leaf_flat v)
  tree_low (node ty None fs) = omega (arith, body_low fs)

  body_low : (fs : Fields) → depth (body_data fs) ≤ 1 + 2 * fields_height fs
  body_low no_fields = omega arith
  body_low (field key true items rest) = omega (arith, items_low items)
  body_low (field key false items rest) = omega (arith, keyed_low key items (members_data rest), members_low rest)

  keyed_low : (key : List ℕ) (items : Nodes) (ms : Members) → members_depth (keyed_data key items ms) ≤ max (2 * items_height items) (members_depth ms)
  keyed_low key no_nodes ms = omega arith
  keyed_low key (first t ts) ms = omega (arith, tree_low t)

  members_low : (fs : Fields) → members_depth (members_data fs) ≤ 2 * fields_height fs
  members_low no_fields = omega arith
  members_low (field key row items rest) = omega (arith, keyed_low key items (members_data rest), members_low rest)

  pub items_low : (ts : Nodes) → items_depth (trees_data ts) ≤ 2 * items_height ts
  items_low no_nodes = omega arith
  items_low (first t ts) = omega (arith, tree_low t, items_low ts)

-- a tree within the limits nests no deeper than a text may
pub tree_shallow : (t : Node) → check_of t ≡ Ok tt → depth (tree_data t) ≤ max_depth
tree_shallow t within = omega (arith, tree_low t, low_within t within)
