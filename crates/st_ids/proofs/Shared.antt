-- Lemmas that several crates above need.
use Rattle.std.proofs.Common.{◌≡◌, ℕ, zero, suc, List, [], ◌∷◌, Some, slice_get, inl, inr, refl, Bool, true, false, cond, filter, sym, ap, ◌∙◌, Option, None}
use Rattle.st_ids.specs.Listing.{Has}
use Rattle.std.specs.List.{filter_map, cons_option}

pub at_has : {A : Type 0} (xs : List A) (i : ℕ) (x : A) → slice_get xs i ≡ Some x → Has xs x
at_has [] i x e = cc
at_has (y ∷ xs) zero x e = inl (let same : y ≡ x = cc in same)
at_has (y ∷ xs) (suc i) x e = inr (at_has xs i x e)

pub no_members : {A : Type 0} (xs : List A) → ((x : A) → Has xs x → ⊥) → xs ≡ []
no_members [] out = refl
no_members (x ∷ xs) out = absurd (out x (inl refl))

pub filtered : {A : Type 0} (p : A → Bool) (xs : List A) (x : A) → Has (filter p xs) x → Has xs x × (p x ≡ true)
filtered p [] x h = absurd h
filtered {A} p (y ∷ xs) x h = go (p y) refl (λ k. filtered p xs x k) h
  where
    go : (b : Bool) → p y ≡ b → (Has (filter p xs) x → Has xs x × (p x ≡ true)) → Has (cond b (y ∷ filter p xs) (filter p xs)) x → Has (y ∷ xs) x × (p x ≡ true)
    go true e rest (inl q) = (inl q, ap p (sym q) ∙ e)
    go true e rest (inr k) = let r = rest k in (inr r.0, r.1)
    go false e rest k = let r = rest k in (inr r.0, r.1)

pub filter-from : {A B : Type 0} (f : A → Option B) (xs : List A) (y : B) → Has (filter_map f xs) y → (x : A) × Has xs x × (f x ≡ Some y)
filter-from f [] y h = absurd h
filter-from {A} {B} f (x ∷ xs) y h = go (f x) refl (λ k. filter-from f xs y k) h
  where
    go : (o : Option B) → f x ≡ o → (Has (filter_map f xs) y → (z : A) × Has xs z × (f z ≡ Some y)) → Has (cons_option o (filter_map f xs)) y → (z : A) × Has (x ∷ xs) z × (f z ≡ Some y)
    go None e rest k = let z = rest k in (z.0, inr z.1, z.2)
    go (Some w) e rest (inl q) = (x, inl refl, e ∙ ap (λ a. Some a) q)
    go (Some w) e rest (inr k) = let z = rest k in (z.0, inr z.1, z.2)

pub filter-has : {A : Type 0} (p : A → Bool) (xs : List A) (x : A) → Has xs x → p x ≡ true → Has (filter p xs) x
filter-has p [] x h e = absurd h
filter-has p (y ∷ ys) x h e = go (p y) refl (λ i. filter-has p ys x i e) h
  where
    go : (b : Bool) → p y ≡ b → (Has ys x → Has (filter p ys) x) → Has (y ∷ ys) x → Has (cond b (y ∷ filter p ys) (filter p ys)) x
    go true f rest (inl q) = inl q
    go true f rest (inr i) = inr (rest i)
    go false f rest (inl q) = absurd (let bad : ◌≡◌ {A = Bool} false true = sym f ∙ ap p q ∙ e in cc)
    go false f rest (inr i) = rest i
