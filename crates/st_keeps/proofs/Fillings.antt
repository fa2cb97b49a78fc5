-- Required fields that are cleared and filled again.
use Rattle.std.proofs.Common.{◌≡◌, ◌↔◌, ◌⊎◌, Bool, true, false, not, ◌||◌, List, Option, Some, None, refl, sym, ap, ◌∙◌, inl, inr}
use Rattle.st_ids.specs.Order.{same_field}
use Rattle.st_ids.specs.declared.names.FieldId.{FieldId}
use Rattle.st_ids.specs.declared.names.NodeId.{NodeId}
use Rattle.st_ids.proofs.Orders.{same_field-itself, same_field-true}
use Rattle.st_schema.specs.Schema.{SchemaView}
use Rattle.st_marks.specs.CarryOut.{with_names}
use Rattle.st_marks.specs.Document.{Document}
use Rattle.st_marks.specs.Intent.{is_new, put_in}
use Rattle.st_marks.specs.declared.intents.Intent.{Intent}
use Rattle.st_edits.specs.Fields.{is_required_field}
use Rattle.st_edits.specs.Keeping.{home_of}
use Rattle.st_makers.specs.Makers.{KnowsMakers, home_told}
use Rattle.st_makers.specs.declared.makers.Makers.{Makers}
use Rattle.st_keeps.specs.Moves.{ClearedAreFilled}
use Rattle.st_keeps.specs.inside.Tests.{are_filled, comes_well, is_filled, is_told}
use Rattle.st_keeps.proofs.AllOf.{clears_all}

told : (f : FieldId) (o : Option FieldId) → (is_told f o ≡ true) ↔ (o ≡ Some f)
told f None = (λ t. absurd (let bad : false ≡ true = t in cc), λ h. absurd (let bad : None ≡ Some f = h in cc))
told f (Some g) = (λ t. ap (λ z. Some z) (same_field-true g f t), λ h. (let same : g ≡ f = cc in ap (λ z. same_field z f) same ∙ same_field-itself f))

either : {P : Type 0} (a b : Bool) → ((a ≡ true) ↔ P) → ((a || b) ≡ true) ↔ ((b ≡ true) ⊎ P)
either true b h = (λ t. inr (h.0 refl), λ f. refl)
either false true h = (λ t. inl refl, λ f. refl)
either false false h = (λ t. absurd (let bad : false ≡ true = t in cc), λ f. elim f [ inl e ↦ e | inr p ↦ h.1 p ])

pub unless : {P : Type 0} (a b : Bool) → ((a ≡ true) ↔ P) → ((a || not b) ≡ true) ↔ (b ≡ true → P)
unless true b h = (λ t e. h.0 refl, λ f. refl)
unless false true h = (λ t e. h.0 t, λ f. h.1 (f refl))
unless false false h = (λ t e. absurd (let bad : false ≡ true = e in cc), λ f. refl)

comes : (O : Document) (log : List Intent) (makers : Makers) → KnowsMakers O log makers → (N : Intent) (f : FieldId) (o : Option NodeId)
    → (comes_well makers N f o ≡ true) ↔ ((m : NodeId) × (o ≡ Some m) × ((is_new N m ≡ true) ⊎ (home_of O log m ≡ Some f)))
comes O log makers knows N f None = (λ t. absurd (let bad : false ≡ true = t in cc), λ h. absurd (let bad : None ≡ Some h.0 = h.1 in cc))
comes O log makers knows N f (Some m) = (
  λ t. (m, refl, (one m).0 t),
  λ h. (let same : m ≡ h.0 = cc in ap (λ m. is_told f (home_told makers m) || is_new N m) same ∙ (one h.0).1 h.2),
)
  where
    one : (m : NodeId) → ((is_told f (home_told makers m) || is_new N m) ≡ true) ↔ ((is_new N m ≡ true) ⊎ (home_of O log m ≡ Some f))
    one m = either (is_told f (home_told makers m)) (is_new N m)
        (let h = told f (home_told makers m) in (λ t. sym (knows.homes m) ∙ h.0 t, λ e. h.1 (knows.homes m ∙ e)))

pub all_filled : (O : Document) (log : List Intent) (makers : Makers) → KnowsMakers O log makers → (U : SchemaView) (D : Document) (N : Intent)
    → (are_filled makers U D N ≡ true) ↔ ClearedAreFilled O log U D N
all_filled O log makers knows U D N =
    clears_all N (is_filled makers U D N) (λ f. is_required_field U (with_names D N) f ≡ true → (m : NodeId) × (put_in N f ≡ Some m) × ((is_new N m ≡ true) ⊎ (home_of O log m ≡ Some f)))
    (λ f. unless (comes_well makers N f (put_in N f)) (is_required_field U (with_names D N) f) (comes O log makers knows N f (put_in N f)))
