-- A tree is told by what is seen of it.
use Rattle.std.proofs.Common.{◌≡◌, List, [], ◌∷◌, ◌∙◌, map, refl, sym, ap, subst}
use Rattle.st_tree.specs.Node.{Node, node, Fields, no_fields, field, Nodes, no_nodes, first, FieldNode, view, trees_view}
use Rattle.st_tree.specs.inside.Node.{field_view, fields_view}
use Rattle.st_tree.specs.declared.tree.Tree.{Tree}
use Rattle.st_tree.specs.declared.tree.Field.{Field}
use Rattle.st_tree.specs.declared.tree.Field.TheViews.{roll-Tree, roll-Field}
use Rattle.st_tree.specs.declared.tree.Field.TheFolds.{ind-Tree}
use Rattle.st_tree.proofs.Views.{view_roll, field_view_roll}

-- the tree of a view
abbrev mutual
  tree_from : Node → Tree
  tree_from (node ty leaf fields) = roll-Tree (record { ty = ty; leaf = leaf; fields = fields_from fields })

  fields_from : Fields → List Field
  fields_from no_fields = []
  fields_from (field key row items rest) = roll-Field (record { key = record { 0 = key }; row = row; items = trees_from items }) ∷ fields_from rest

  trees_from : Nodes → List Tree
  trees_from no_nodes = []
  trees_from (first t ts) = tree_from t ∷ trees_from ts

abbrev field_from : FieldNode → Field
field_from f = roll-Field (record { key = record { 0 = f.key }; row = f.row; items = trees_from f.items })

abbrev FieldComesBack : Field → Type 0
FieldComesBack f = field_from (field_view f) ≡ f

abbrev TreeComesBack : Tree → Type 0
TreeComesBack t = tree_from (view t) ≡ t

items_back : (ts : List ((t : Tree) × TreeComesBack t)) → trees_from (trees_view (map (λ e. e.0) ts)) ≡ map (λ e. e.0) ts
items_back [] = refl
items_back (e ∷ ts) = λ i. e.1 i ∷ items_back ts i

fields_back : (fs : List ((f : Field) × FieldComesBack f)) → fields_from (fields_view (map (λ e. e.0) fs)) ≡ map (λ e. e.0) fs
fields_back [] = refl
fields_back (e ∷ fs) = λ i. e.1 i ∷ fields_back fs i

pub tree_back : (t : Tree) → tree_from (view t) ≡ t
tree_back = ind-Tree FieldComesBack TreeComesBack
    (λ x y is. ap field_from (field_view_roll x) ∙ ap (λ ts. roll-Field (record { key = x.key; row = x.row; items = ts })) (subst (λ z. trees_from (trees_view z.items) ≡ z.items) is (items_back y.items)))
    (λ x y is. ap tree_from (view_roll x) ∙ ap (λ fs. roll-Tree (record { ty = x.ty; leaf = x.leaf; fields = fs })) (subst (λ z. fields_from (fields_view z.fields) ≡ z.fields) is (fields_back y.fields)))

trees_back : (ts : List Tree) → trees_from (trees_view ts) ≡ ts
trees_back [] = refl
trees_back (t ∷ ts) = λ i. tree_back t i ∷ trees_back ts i

-- trees that are seen as the same are the same
pub same_trees : (ts us : List Tree) → trees_view ts ≡ trees_view us → ts ≡ us
same_trees ts us e = sym (trees_back ts) ∙ ap trees_from e ∙ trees_back us
