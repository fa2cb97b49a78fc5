-- The trees of an edit, from what contracts see of them.
use Rattle.std.proofs.Common.{◌≡◌, List, [], ◌∷◌, ◌∙◌, refl, ap}
use Rattle.st_tree.specs.Node.{Node, node, Fields, no_fields, field, Nodes, no_nodes, first, FieldNode, view, trees_view}
use Rattle.st_tree.specs.inside.Node.{fields_view}
use Rattle.st_tree.specs.declared.tree.Tree.{Tree}
use Rattle.st_tree.specs.declared.tree.Field.{Field}
use Rattle.st_tree.specs.declared.tree.Field.TheViews.{roll-Tree, roll-Field}
use Rattle.st_tree.proofs.Views.{view_roll, field_view_roll}

abbrev mutual
  pub tree_from : Node → Tree
  tree_from (node ty leaf fields) = roll-Tree (record { ty = ty; leaf = leaf; fields = fields_from fields })

  fields_from : Fields → List Field
  fields_from no_fields = []
  fields_from (field key row items rest) = roll-Field (record { key = record { 0 = key }; row = row; items = trees_from items }) ∷ fields_from rest

  pub trees_from : Nodes → List Tree
  trees_from no_nodes = []
  trees_from (first t ts) = tree_from t ∷ trees_from ts

-- a field is seen among others
abbrev with_field : FieldNode → Fields → Fields
with_field f rest = field f.key f.row f.items rest

mutual
  pub tree_seen : (t : Node) → view (tree_from t) ≡ t
  tree_seen (node ty leaf fields) = view_roll (record { ty = ty; leaf = leaf; fields = fields_from fields }) ∙ ap (λ fs. node ty leaf fs) (fields_seen fields)

  fields_seen : (fs : Fields) → fields_view (fields_from fs) ≡ fs
  fields_seen no_fields = refl
  fields_seen (field key row items rest) =
      ap (λ f. with_field f (fields_view (fields_from rest))) (field_view_roll (record { key = record { 0 = key }; row = row; items = trees_from items }))
      ∙ ap (λ is. field key row is (fields_view (fields_from rest))) (trees_seen items) ∙ ap (λ fs. field key row items fs) (fields_seen rest)

  pub trees_seen : (ts : Nodes) → trees_view (trees_from ts) ≡ ts
  trees_seen no_nodes = refl
  trees_seen (first t ts) = ap (λ x. first x (trees_view (trees_from ts))) (tree_seen t) ∙ ap (λ us. first t us) (trees_seen ts)
