-- Fields that are found, and the least of them.
use Rattle.std.proofs.Common.{◌≡◌, ◌<◌, ◌+◌, ℕ, zero, suc, true, false, Bool, List, [], ◌∷◌, ◌++◌, length, take, map, get_or, slice_get, Some, refl, sym, ap, ◌∙◌, subst, inl, inr, append_assoc, arith}
use Rattle.std.proofs.lemmas.Grind.{flat_map-append}
use Rattle.std.specs.List.{flat_map}
use Rattle.std.specs.declared.cmp.Ordering.{Ordering}
use Rattle.std.specs.declared.cmp.Ordering.TheVariants.{Less, Equal, Greater}
use Rattle.std.specs.Ordering.{is_lt, ordering_reverse}
use Rattle.st_ids.specs.Listing.{Has}
use Rattle.st_ids.specs.Order.{field_cmp}
use Rattle.st_ids.specs.declared.names.FieldId.{FieldId}
use Rattle.st_ids.proofs.Orders.{field_cmp_total}
use Rattle.st_lemmas.proofs.Bools.{true-false}
use Rattle.st_marks.proofs.Members.{has-append}
use Rattle.st_lemmas.proofs.FirstItems.{take_one}
use Rattle.st_lemmas.proofs.Lists.{map-append}

-- the item at a place
pub there : {A : Type 0} (xs : List A) (i : ℕ) → i < length xs → (x : A) × (slice_get xs i ≡ Some x) × Has xs x × ((d : A) → get_or xs i d ≡ x)
there [] i l = absurd (omega (arith, l))
there (x ∷ xs) zero l = (x, refl, inl refl, λ d. refl)
there (x ∷ xs) (suc i) l = let r = there xs i (omega (arith, l)) in (r.0, r.1, inr r.2, r.3)

-- what is put behind others, one item after the other
pub flat_more : {A B : Type 0} (f : A → List B) (old before now : List B) (xs : List A) (i : ℕ) (d x : A) → i < length xs → get_or xs i d ≡ x
    → before ≡ old ++ flat_map f (take i xs) → now ≡ before ++ f x → now ≡ old ++ flat_map f (take (i + 1) xs)
flat_more f old before now xs i d x inside at so_far h =
    h ∙ ap (λ l. l ++ f x) so_far ∙ append_assoc old (flat_map f (take i xs)) (f x)
    ∙ ap (λ l. old ++ l) (ap (λ l. flat_map f (take i xs) ++ l) (sym (one (f x))) ∙ sym (flat_map-append f (take i xs) (x ∷ [])) ∙ ap (flat_map f) (sym (take_one xs i d x inside at)))
  where
    one : {B : Type 0} (l : List B) → l ++ [] ≡ l
    one [] = refl
    one (y ∷ l) = ap (λ z. y ∷ z) (one l)

pub mapped_more : {A B : Type 0} (f : A → B) (old before now : List B) (xs : List A) (i : ℕ) (d x : A) → i < length xs → get_or xs i d ≡ x
    → before ≡ old ++ map f (take i xs) → now ≡ before ++ f x ∷ [] → now ≡ old ++ map f (take (i + 1) xs)
mapped_more f old before now xs i d x inside at so_far h =
    h ∙ ap (λ l. l ++ f x ∷ []) so_far ∙ append_assoc old (map f (take i xs)) (f x ∷ [])
    ∙ ap (λ l. old ++ l) (sym (map-append f (take i xs) (x ∷ [])) ∙ ap (map f) (sym (take_one xs i d x inside at)))

-- ## The least

-- none of the fields is less
abbrev pub IsNoneLess : List FieldId → FieldId → Type 0
IsNoneLess xs f = (g : FieldId) → Has xs g → is_lt (field_cmp g f) ≡ false

less : (o : Ordering) → is_lt o ≡ true → o ≡ Less
less Less e = refl
less Equal e = cc
less Greater e = cc

not_less : (o : Ordering) → (o ≡ Less → ⊥) → is_lt o ≡ false
not_less Less h = absurd (h refl)
not_less Equal h = refl
not_less Greater h = refl

not_itself : (f : FieldId) → is_lt (field_cmp f f) ≡ false
not_itself f = not_less (field_cmp f f) (λ e. apart (ap ordering_reverse (sym e) ∙ sym (field_cmp_total.antisymm f f) ∙ e))
  where
    apart : ordering_reverse Less ≡ Less → ⊥
    apart e = cc

pub least_more : (xs : List FieldId) (i : ℕ) (d old new : FieldId) (b : Bool) → i < length xs → b ≡ is_lt (field_cmp (get_or xs i d) old) → (b ≡ true → new ≡ get_or xs i d) → (b ≡ false → new ≡ old)
    → Has xs old × IsNoneLess (take i xs) old → Has xs new × IsNoneLess (take (i + 1) xs) new
least_more xs i d old new true inside is to_item stays so_far =
    let x = there xs i inside in
    let e : get_or xs i d ≡ new = sym (to_item refl) in
    let same : x.0 ≡ new = sym (x.3 d) ∙ e in
    let first : is_lt (field_cmp new old) ≡ true = sym (is ∙ ap (λ z. is_lt (field_cmp z old)) e) in (
      subst (Has xs) same x.2,
      λ g h. elim (has-append (take i xs) (new ∷ []) g (subst (λ l. Has l g) (take_one xs i d new inside e) h)) [
        | inl j ↦ not_less _ (λ f. true-false (ap is_lt (field_cmp_total.trans g new old f (less _ first))) (so_far.1 g j))
        | inr j ↦ elim j [ inl f ↦ subst (λ z. is_lt (field_cmp z new) ≡ false) f (not_itself new) | inr k ↦ absurd k ]
      ],
    )
least_more xs i d old new false inside is to_item stays so_far =
    let e : old ≡ new = sym (stays refl) in
    subst (λ z. Has xs z × IsNoneLess (take (i + 1) xs) z) e (
      so_far.0,
      λ g h. elim (has-append (take i xs) (get_or xs i d ∷ []) g (subst (λ l. Has l g) (take_one xs i d (get_or xs i d) inside refl) h)) [
        | inl j ↦ so_far.1 g j
        | inr j ↦ elim j [ inl f ↦ subst (λ z. is_lt (field_cmp z old) ≡ false) f (sym is) | inr k ↦ absurd k ]
      ],
    )
