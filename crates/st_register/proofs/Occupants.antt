-- Tests of occupants, and of what becomes of them.
use Rattle.std.proofs.Common.{◌≡◌, ◌≢◌, Bool, true, false, Option, Some, None, cond, refl, sym, ap, ◌∙◌, subst, IsTrue, is_some}
use Rattle.st_ids.specs.Order.{same_node}
use Rattle.st_ids.specs.declared.names.FieldId.{FieldId}
use Rattle.st_ids.specs.declared.names.NodeId.{NodeId}
use Rattle.st_ids.proofs.Orders.{same_field-true, same_field-itself}
use Rattle.st_marks.specs.declared.intents.To.{To}
use Rattle.st_marks.specs.declared.marks.How.TheVariants.{Stay, Here, Leave}
use Rattle.st_marks.specs.Intent.{same_option}
use Rattle.st_marks.specs.Register.{comes_in}
use Rattle.st_marks.specs.Row.{how, same_to}
use Rattle.st_marks.proofs.Shared.{same-held, held-same}

-- ## One occupant

pub not_true : {b : Bool} → b ≡ false → b ≡ true → ⊥
not_true e f = let g : ◌≡◌ {A = Bool} false true = sym e ∙ f in cc

pub other_occupant : (a b : Option NodeId) → a ≢ b → same_option same_node a b ≡ false
other_occupant a b h =
    elim (same_option same_node a b) as (λ t. same_option same_node a b ≡ t → t ≡ false) [ true ↦ λ e. absurd (h (same-held a b e)) | false ↦ λ e. refl ] refl

-- the test of names, from the two directions
pub decided : (r : Bool) (a b : Option NodeId) → (IsTrue r → a ≡ b) → (a ≡ b → IsTrue r) → r ≡ same_option same_node a b
decided true a b f g = sym (held-same a b (f refl))
decided false a b f g = sym (other_occupant a b (λ e. let h : ◌≡◌ {A = Bool} false true = g e in cc))

-- ## Who comes in

pub comes_in-nobody : (fill : Option NodeId) → comes_in None fill ≡ fill
comes_in-nobody None = refl
comes_in-nobody (Some n) = refl

pub comes_in-other : (held fill : Option NodeId) → held ≢ fill → comes_in held fill ≡ fill
comes_in-other held fill h = rw (other_occupant held fill h) refl

pub comes_in-same : (held fill : Option NodeId) → held ≡ fill → comes_in held fill ≡ None
comes_in-same held fill e = rw (held-same held fill e) refl

-- ## What becomes of an occupant

same_to-register : (to : To) (f : FieldId) → same_to to (To.Register f) ≡ true → to ≡ To.Register f
same_to-register To.Nowhere f e = cc
same_to-register (To.Cell c) f e = cc
same_to-register (To.Register g) f e = ap (λ (k : FieldId). To.Register k) (same_field-true g f e)

pub here-to : (target_of : Option To) (f : FieldId) → how target_of (To.Register f) ≡ Here → target_of ≡ Some (To.Register f)
here-to None f e = cc
here-to (Some to) f e =
    elim (same_to to (To.Register f)) as (λ b. same_to to (To.Register f) ≡ b → cond b Here Leave ≡ Here → Some to ≡ Some (To.Register f)) [
      | true ↦ λ t h. ap (λ (q : To). Some q) (same_to-register to f t)
      | false ↦ λ t h. cc
    ] refl e

pub to-here : (target_of : Option To) (f : FieldId) → target_of ≡ Some (To.Register f) → how target_of (To.Register f) ≡ Here
to-here target_of f e = subst (λ (q : Option To). how q (To.Register f) ≡ Here) (sym e) (rw (same_field-itself f) refl)

pub stay-to : (target_of : Option To) (f : FieldId) → how target_of (To.Register f) ≡ Stay → is_some target_of ≡ false
stay-to None f e = refl
stay-to (Some to) f e =
    elim (same_to to (To.Register f)) as (λ b. cond b Here Leave ≡ Stay → true ≡ false) [ true ↦ λ h. cc | false ↦ λ h. cc ] e

pub leave-to : (target_of : Option To) (f : FieldId) → how target_of (To.Register f) ≡ Leave → is_some target_of ≡ true
leave-to None f e = cc
leave-to (Some to) f e = refl
