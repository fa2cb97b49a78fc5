-- Documents that extend one another.
use Rattle.std.proofs.Common.{List, [], ◌∷◌, refl, ◌∙◌}
use Rattle.st_marks.specs.declared.intents.Owned.{Owned}
use Rattle.st_marks.specs.Document.{Document, IsSoundInForm}
use Rattle.st_marks.specs.Extends.{no_more, item_gained, item_kept, IsExtendedBy}
use Rattle.st_marks.proofs.NewRows.{KeepsOrder}

pub grows_itself : (xs : List Owned) → KeepsOrder xs xs
grows_itself [] = no_more
grows_itself (x ∷ xs) = item_kept refl (grows_itself xs)

grows_on : {ys zs : List Owned} → KeepsOrder ys zs → {xs : List Owned} → KeepsOrder xs ys → KeepsOrder xs zs
grows_on no_more g = g
grows_on (item_gained h) g = item_gained (grows_on h g)
grows_on (item_kept e h) (item_gained g) = item_gained (grows_on h g)
grows_on (item_kept e h) (item_kept f g) = item_kept (f ∙ e) (grows_on h g)

pub extends_itself : (D : Document) → IsSoundInForm D → IsExtendedBy D D
extends_itself D s = record { before = s; after = s; nodes = λ n k e. e; rows = λ n. grows_itself (D.rows n); first_schema = refl }

pub extends_on : (D E F : Document) → IsExtendedBy D E → IsExtendedBy E F → IsExtendedBy D F
extends_on D E F g h = record {
  before = g.before;
  after = h.after;
  nodes = λ n k e. h.nodes n k (g.nodes n k e);
  rows = λ n. grows_on (h.rows n) (g.rows n);
  first_schema = g.first_schema ∙ h.first_schema;
}
