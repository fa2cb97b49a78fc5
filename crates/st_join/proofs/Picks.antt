-- What is found, and what is distinct, in lists that are mapped and sifted.
use Rattle.std.proofs.Common.{◌≡◌, ◌≢◌, Bool, true, false, cond, ◌||◌, List, [], ◌∷◌, ◌++◌, Option, Some, None, map, option_and_then, refl, sym, ap, ◌∙◌, subst, inl, inr}
use Rattle.std.specs.List.{cons_option, filter, filter_map, find, flat_map, list_any}
use Rattle.st_ids.specs.Listing.{AreDistinct, Has}
use Rattle.st_lemmas.proofs.Bools.{true-false}
use Rattle.st_join.proofs.Picked.{has-picked}
use Rattle.st_marks.proofs.Members.{all-has, has-all, distinct-append, first-has, has-flat_map, has-map}

-- ## Sifted

-- what a test finds isn't sifted out
pub any-filter : {A : Type 0} (k q : A → Bool) (xs : List A) → ((x : A) → q x ≡ true → k x ≡ true) → list_any q (filter k xs) ≡ list_any q xs
any-filter k q [] stays = refl
any-filter {A} k q (x ∷ xs) stays = go (k x) refl (q x) refl (any-filter k q xs stays)
  where
    go : (b : Bool) → k x ≡ b → (c : Bool) → q x ≡ c → list_any q (filter k xs) ≡ list_any q xs → list_any q (cond b (x ∷ filter k xs) (filter k xs)) ≡ (c || list_any q xs)
    go true e true f rest = rw f refl
    go true e false f rest = rw f rest
    go false e true f rest = absurd (true-false (stays x f) e)
    go false e false f rest = rest

pub any-append : {A : Type 0} (q : A → Bool) (xs ys : List A) → list_any q (xs ++ ys) ≡ (list_any q xs || list_any q ys)
any-append q [] ys = refl
any-append {A} q (x ∷ xs) ys = go (q x) (any-append q xs ys)
  where
    go : (b : Bool) → list_any q (xs ++ ys) ≡ (list_any q xs || list_any q ys) → (b || list_any q (xs ++ ys)) ≡ ((b || list_any q xs) || list_any q ys)
    go true e = refl
    go false e = e

-- ## Mapped

pub map-distinct : {A B K : Type 0} (f : A → B) (key : B → K) (xs : List A) → AreDistinct (λ x. key (f x)) xs → AreDistinct key (map f xs)
map-distinct f key [] a = tt
map-distinct f key (x ∷ xs) a = (
  has-all (λ y. key y ≢ key (f x)) (map f xs) (λ y h. let r = has-map f xs y h in subst (λ y. key y ≢ key (f x)) r.2 (all-has (λ z. key (f z) ≢ key (f x)) xs r.0 a.0 r.1)),
  map-distinct f key xs a.1,
)

-- lists that are distinct each, and of which none shares a key with one of another place
pub flat_map-distinct : {A B K L : Type 0} (f : A → List B) (key : B → K) (place : A → L) (gs : List A) → AreDistinct place gs → ((g : A) → Has gs g → AreDistinct key (f g))
    → ((g h : A) (x y : B) → Has gs g → Has gs h → Has (f g) x → Has (f h) y → key x ≡ key y → place g ≡ place h) → AreDistinct key (flat_map f gs)
flat_map-distinct f key place [] a each one = tt
flat_map-distinct f key place (g ∷ gs) a each one =
    distinct-append key (f g) (flat_map f gs) (each g (inl refl)) (flat_map-distinct f key place gs a.1 (λ h i. each h (inr i)) (λ h k x y i j. one h k x y (inr i) (inr j)))
    (λ x y hx hy e. let r = has-flat_map f gs y hy in all-has (λ h. place h ≢ place g) gs r.0 a.0 r.1 (one r.0 g y x (inr r.1) (inl refl) r.2 hx e))

-- ## Picked by a function that keeps the key

module _ {A B : Type 0} (h : A → Option B) where
  pub picked-distinct : {K : Type 0} (key : A → K) (key' : B → K) → ((x : A) (y : B) → h x ≡ Some y → key' y ≡ key x) → (xs : List A) → AreDistinct key xs → AreDistinct key' (filter_map h xs)
  picked-distinct key key' keeps [] a = tt
  picked-distinct key key' keeps (x ∷ xs) a = go (h x) refl (picked-distinct key key' keeps xs a.1)
    where
      go : (o : Option B) → h x ≡ o → AreDistinct key' (filter_map h xs) → AreDistinct key' (cons_option o (filter_map h xs))
      go None e rest = rest
      go (Some y) e rest = (
        has-all (λ z. key' z ≢ key' y) (filter_map h xs) (λ z i q.
            let r = has-picked h xs z i in
            all-has (λ w. key w ≢ key x) xs r.0 a.0 r.1 (sym (keeps r.0 z r.2) ∙ q ∙ keeps x y e)),
        rest,
      )

  -- the first that a test of keys finds, where keys are distinct
  pub find-picked : {K : Type 0} (key : A → K) (key' : B → K) → ((x : A) (y : B) → h x ≡ Some y → key' y ≡ key x) → (t : K → Bool) → ((k l : K) → t k ≡ true → t l ≡ true → k ≡ l)
      → (xs : List A) → AreDistinct key xs → find (λ y. t (key' y)) (filter_map h xs) ≡ option_and_then h (find (λ x. t (key x)) xs)
  find-picked key key' keeps t one [] a = refl
  find-picked key key' keeps t one (x ∷ xs) a = go (t (key x)) refl (h x) refl (find-picked key key' keeps t one xs a.1)
    where
      none_left : t (key x) ≡ true → (o : Option A) → find (λ x. t (key x)) xs ≡ o → option_and_then h o ≡ None
      none_left e None f = refl
      none_left e (Some y) f = let r = first-has (λ x. t (key x)) xs y f in absurd (all-has (λ w. key w ≢ key x) xs y a.0 r.0 (one (key y) (key x) r.1 e))

      go : (b : Bool) → t (key x) ≡ b → (o : Option B) → h x ≡ o → find (λ y. t (key' y)) (filter_map h xs) ≡ option_and_then h (find (λ x. t (key x)) xs)
          → find (λ y. t (key' y)) (cons_option o (filter_map h xs)) ≡ option_and_then h (cond b (Some x) (find (λ x. t (key x)) xs))
      go true e None f rest = rest ∙ none_left e (find (λ x. t (key x)) xs) refl ∙ sym f
      go true e (Some y) f rest = let found : t (key' y) ≡ true = ap t (keeps x y f) ∙ e in (rw found refl) ∙ sym f
      go false e None f rest = rest
      go false e (Some y) f rest = let lost : t (key' y) ≡ false = ap t (keeps x y f) ∙ e in (rw lost refl) ∙ rest
