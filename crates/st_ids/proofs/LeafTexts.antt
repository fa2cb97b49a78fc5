-- The JSON form of a leaf has no number with a fraction.
use Rattle.std.specs.Prelude.{ℤ, pos, negsuc}
use Rattle.std.proofs.Common.{◌≡◌, false, refl}
use Rattle.serde_json.specs.Data.{number}
use Rattle.serde_json.specs.Find.{of_integer}
use Rattle.serde_json.specs.Written.{has_float}
use Rattle.st_ids.specs.declared.names.Leaf.{Leaf}
use Rattle.st_ids.specs.LeafText.{leaf_data}

int_no_float : (i : ℤ) → has_float (number (of_integer i)) ≡ false
int_no_float (pos n) = refl
int_no_float (negsuc n) = refl

pub leaf_no_float : (v : Leaf) → has_float (leaf_data v) ≡ false
leaf_no_float Leaf.Null = refl
leaf_no_float (Leaf.Bool b) = refl
leaf_no_float (Leaf.Int i) = int_no_float i
leaf_no_float (Leaf.Words t) = refl
