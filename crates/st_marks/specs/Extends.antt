-- One document extends another: nothing that was made is lost. What stands where may differ.
use Rattle.std.specs.Prelude.{◌≡◌, List, [], ◌∷◌, Some}
use Rattle.st_ids.specs.declared.names.NodeId.{NodeId}
use Rattle.st_marks.specs.declared.intents.Owned.{Owned}
use Rattle.st_marks.specs.Document.{Document, NodeType, IsSoundInForm, first_of}

-- xs grew to ys: each item of xs is the same in ys, in the same order, and more may stand between
pub data GainsItems {A : Type 0} (Same : A → A → Type 0) : List A → List A → Type 0 where
  no_more : GainsItems Same [] []
  item_gained : {y : A} {xs ys : List A} → GainsItems Same xs ys → GainsItems Same xs (y ∷ ys)
  item_kept : {x y : A} {xs ys : List A} → Same x y → GainsItems Same xs ys → GainsItems Same (x ∷ xs) (y ∷ ys)

-- E extends D: it has all that D has, in the same order
pub record IsExtendedBy (D E : Document) : Type 0 where
  pub before : IsSoundInForm D
  pub after : IsSoundInForm E
  pub nodes : (n : NodeId) (t : NodeType) → D.nodes n ≡ Some t → E.nodes n ≡ Some t
  pub rows : (n : NodeId) → GainsItems (λ (o p : Owned). o ≡ p) (D.rows n) (E.rows n)
  pub first_schema : first_of D.schemas ≡ first_of E.schemas
