-- Two lists of entries, of which a shared front is left out.
use Rattle.std.proofs.Common.{◌≡◌, ◌≤◌, ◌<◌, ◌+◌, ◌&&◌, ◌==◌, ℕ, zero, suc, true, false, cond, List, [], ◌∷◌, drop, length, slice_get, Option, Some, None, refl, sym, ap, ◌∙◌, arith}
use Rattle.std.proofs.lemmas.Bool.Decides.{nat_tests}
use Rattle.std.proofs.lemmas.Option.{slice_get_within}
use Rattle.st_ids.specs.declared.names.Rev.{Rev}
use Rattle.st_lemmas.proofs.Lists.{drop-slice_get}
use Rattle.st_marks.specs.declared.schemas.SchemaEntry.{SchemaEntry}
use Rattle.st_listings.specs.Schemas.{same_entry, settle}
use Rattle.st_listings.specs.inside.Settling.{IsSettling, agree}

both_there : (a b : Option SchemaEntry) → agree a b ≡ true → (x : SchemaEntry) × (y : SchemaEntry) × (a ≡ Some x) × (b ≡ Some y) × (same_entry x y ≡ true)
both_there None b e = cc
both_there (Some a) None e = cc
both_there (Some a) (Some b) e = (a, b, refl, refl, e)

pub agree_within : (xs ys : List SchemaEntry) (i : ℕ) → agree (slice_get xs i) (slice_get ys i) ≡ true → (i < length xs) × (i < length ys)
agree_within xs ys i e = let w = both_there (slice_get xs i) (slice_get ys i) e in (slice_get_within xs i w.0 w.2, slice_get_within ys i w.1 w.3)

pub no_front : (on : Rev) (xs ys : List SchemaEntry) → IsSettling on xs ys 0 on
no_front on xs ys = record { in_cut = omega arith; in_add = omega arith; same = refl }

pub front_more : (on last : Rev) (xs ys : List SchemaEntry) (i : ℕ) (x : SchemaEntry) → slice_get xs i ≡ Some x → agree (slice_get xs i) (slice_get ys i) ≡ true → IsSettling on xs ys i last → IsSettling on xs ys (i + 1) x.rev
front_more on last xs ys i x at e s =
    let w = both_there (slice_get xs i) (slice_get ys i) e in
    let inside = agree_within xs ys i e in
    let is_x : w.0 ≡ x = some_is (sym w.2 ∙ at) in
    let first : drop i xs ≡ x ∷ drop (i + 1) xs = drop-slice_get xs i x at in
    let second : drop i ys ≡ w.1 ∷ drop (i + 1) ys = drop-slice_get ys i w.1 w.3 in
    let one : same_entry x w.1 ≡ true = ap (λ z. same_entry z w.1) (sym is_x) ∙ w.4 in
    record {
      in_cut = omega (arith, inside.0);
      in_add = omega (arith, inside.1);
      same = s.same ∙ (λ j. settle last (first j) (second j)) ∙ ap (λ b. cond b (settle x.rev (drop (i + 1) xs) (drop (i + 1) ys)) (Some (record { on = last; cut = x ∷ drop (i + 1) xs; add = w.1 ∷ drop (i + 1) ys }))) one;
    }
  where
    some_is : {a b : SchemaEntry} → ◌≡◌ {A = Option SchemaEntry} (Some a) (Some b) → a ≡ b
    some_is {a = a} e = ap value e
      where
        value : Option SchemaEntry → SchemaEntry
        value None = a
        value (Some y) = y

not_empty : (k : ℕ) → (suc k == 0) ≡ false
not_empty k = grind (arith, nat_tests)

-- what is left, where nothing more is shared
pub settled_end : (on : Rev) (xs ys : List SchemaEntry) (i : ℕ) → i ≤ length xs → i ≤ length ys → agree (slice_get xs i) (slice_get ys i) ≡ false
    → settle on (drop i xs) (drop i ys) ≡ cond ((length (drop i xs) == 0) && (length (drop i ys) == 0)) None (Some (record { on = on; cut = drop i xs; add = drop i ys }))
settled_end on [] [] zero l k e = refl
settled_end on [] (y ∷ ys) zero l k e = ap (λ b. cond b None (Some (record { on = on; cut = []; add = y ∷ ys }))) (sym (not_empty (length ys)))
settled_end on (x ∷ xs) [] zero l k e = ap (λ b. cond (b && (length {A = SchemaEntry} [] == 0)) None (Some (record { on = on; cut = x ∷ xs; add = [] }))) (sym (not_empty (length xs)))
settled_end on (x ∷ xs) (y ∷ ys) zero l k e =
    ap (λ b. cond b (settle x.rev xs ys) (Some (record { on = on; cut = x ∷ xs; add = y ∷ ys }))) e
    ∙ ap (λ b. cond (b && (suc (length ys) == 0)) None (Some (record { on = on; cut = x ∷ xs; add = y ∷ ys }))) (sym (not_empty (length xs)))
settled_end on [] ys (suc i) l k e = let bad : ⊥ = omega (arith, l) in absurd bad
settled_end on (x ∷ xs) [] (suc i) l k e = let bad : ⊥ = omega (arith, k) in absurd bad
settled_end on (x ∷ xs) (y ∷ ys) (suc i) l k e = settled_end on xs ys i (omega (arith, l)) (omega (arith, k)) e

pub settle_is : (on last : Rev) (xs ys goes comes : List SchemaEntry) (i : ℕ) → IsSettling on xs ys i last → agree (slice_get xs i) (slice_get ys i) ≡ false → goes ≡ drop i xs → comes ≡ drop i ys
    → settle on xs ys ≡ cond ((length goes == 0) && (length comes == 0)) None (Some (record { on = last; cut = goes; add = comes }))
settle_is on last xs ys goes comes i s ends e f =
    s.same ∙ settled_end last xs ys i s.in_cut s.in_add ends
    ∙ (λ j. cond ((length (sym e j) == 0) && (length (sym f j) == 0)) None (Some (record { on = last; cut = sym e j; add = sym f j })))
