-- A field of one item, and a node without fields.
use Rattle.std.proofs.Common.{◌≡◌, ◌==◌, List, [], ◌∷◌, length, refl, arith}
use Rattle.std.proofs.lemmas.Bool.Decides.{nat_tests}
use Rattle.st_tree.specs.Node.{trees_view}
use Rattle.st_tree.specs.inside.Node.{fields_view}
use Rattle.st_tree.specs.Form.{is_single}
use Rattle.st_tree.specs.declared.tree.Tree.{Tree}
use Rattle.st_tree.specs.declared.tree.Field.{Field}
use Rattle.st_schema.specs.Conforms.{has_none}

pub single_counts : (ts : List Tree) → (length ts == 1) ≡ is_single (trees_view ts)
single_counts [] = refl
single_counts (t ∷ []) = refl
single_counts (t ∷ u ∷ ts) = grind (arith, nat_tests)

pub none_counts : (fs : List Field) → (length fs == 0) ≡ has_none (fields_view fs)
none_counts [] = refl
none_counts (f ∷ fs) = grind (arith, nat_tests)
