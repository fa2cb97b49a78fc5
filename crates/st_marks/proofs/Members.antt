-- The items of lists: joined, mapped, found by a test, and distinct by a key.
use Rattle.std.proofs.Common.{◌≡◌, ◌≢◌, Bool, true, false, List, [], ◌∷◌, ◌++◌, map, Option, Some, None, cond, ◌||◌, refl, sym, ap, ◌∙◌, subst, inl, inr, ◌⊎◌}
use Rattle.std.specs.List.{AllByRecursion, filter_map, flat_map, find, list_any, filter}
use Rattle.st_ids.specs.Listing.{AreDistinct, Has}
use Rattle.st_lemmas.proofs.Bools.{true-false}
use Rattle.st_ids.proofs.Shared.{filtered}

pub all-has : {A : Type 0} (P : A → Type 0) (xs : List A) (x : A) → AllByRecursion P xs → Has xs x → P x
all-has P [] x a h = absurd h
all-has P (y ∷ xs) x a (inl e) = subst P e a.0
all-has P (y ∷ xs) x a (inr h) = all-has P xs x a.1 h

pub has-all : {A : Type 0} (P : A → Type 0) (xs : List A) → ((x : A) → Has xs x → P x) → AllByRecursion P xs
has-all P [] h = tt
has-all P (y ∷ xs) h = (h y (inl refl), has-all P xs (λ x i. h x (inr i)))

-- ## Joined and mapped

pub append_left : {A : Type 0} (xs ys : List A) (x : A) → Has xs x → Has (xs ++ ys) x
append_left [] ys x h = absurd h
append_left (y ∷ xs) ys x (inl e) = inl e
append_left (y ∷ xs) ys x (inr h) = inr (append_left xs ys x h)

pub append_right : {A : Type 0} (xs ys : List A) (x : A) → Has ys x → Has (xs ++ ys) x
append_right [] ys x h = h
append_right (y ∷ xs) ys x h = inr (append_right xs ys x h)

pub has-append : {A : Type 0} (xs ys : List A) (x : A) → Has (xs ++ ys) x → Has xs x ⊎ Has ys x
has-append [] ys x h = inr h
has-append (y ∷ xs) ys x (inl e) = inl (inl e)
has-append (y ∷ xs) ys x (inr h) = elim (has-append xs ys x h) [ inl i ↦ inl (inr i) | inr i ↦ inr i ]

pub map-has : {A B : Type 0} (f : A → B) (xs : List A) (x : A) → Has xs x → Has (map f xs) (f x)
map-has f [] x h = absurd h
map-has f (y ∷ xs) x (inl e) = inl (ap f e)
map-has f (y ∷ xs) x (inr h) = inr (map-has f xs x h)

pub has-map : {A B : Type 0} (f : A → B) (xs : List A) (y : B) → Has (map f xs) y → (x : A) × Has xs x × (f x ≡ y)
has-map f [] y h = absurd h
has-map f (x ∷ xs) y (inl e) = (x, inl refl, e)
has-map f (x ∷ xs) y (inr h) = let r = has-map f xs y h in (r.0, inr r.1, r.2)

pub flat_map-has : {A B : Type 0} (f : A → List B) (xs : List A) (x : A) (y : B) → Has xs x → Has (f x) y → Has (flat_map f xs) y
flat_map-has f [] x y h i = absurd h
flat_map-has f (z ∷ xs) x y (inl e) i = append_left (f z) (flat_map f xs) y (subst (λ z. Has (f z) y) (sym e) i)
flat_map-has f (z ∷ xs) x y (inr h) i = append_right (f z) (flat_map f xs) y (flat_map-has f xs x y h i)

pub has-flat_map : {A B : Type 0} (f : A → List B) (xs : List A) (y : B) → Has (flat_map f xs) y → (x : A) × Has xs x × Has (f x) y
has-flat_map f [] y h = absurd h
has-flat_map f (x ∷ xs) y h = elim (has-append (f x) (flat_map f xs) y h) [ inl i ↦ (x, inl refl, i) | inr i ↦ (let r = has-flat_map f xs y i in (r.0, inr r.1, r.2)) ]

-- ## Found by a test

module _ {A : Type 0} where
  pub first-has : (p : A → Bool) (xs : List A) (x : A) → find p xs ≡ Some x → Has xs x × (p x ≡ true)
  first-has p [] x e = cc
  first-has p (y ∷ xs) x e = go (p y) refl (λ f. first-has p xs x f) e
    where
      go : (b : Bool) → p y ≡ b → (find p xs ≡ Some x → Has xs x × (p x ≡ true)) → cond b (Some y) (find p xs) ≡ Some x → Has (y ∷ xs) x × (p x ≡ true)
      go true h rest e = let q : y ≡ x = cc in (inl q, ap p (sym q) ∙ h)
      go false h rest e = let r = rest e in (inr r.0, r.1)

  pub none-has : (p : A → Bool) (xs : List A) (x : A) → find p xs ≡ None → Has xs x → p x ≡ false
  none-has p [] x e h = absurd h
  none-has p (y ∷ xs) x e h = go (p y) refl (λ f k. none-has p xs x f k) e h
    where
      go : (b : Bool) → p y ≡ b → (find p xs ≡ None → Has xs x → p x ≡ false) → cond b (Some y) (find p xs) ≡ None → (y ≡ x) ⊎ Has xs x → p x ≡ false
      go true h rest e k = cc
      go false h rest e (inl q) = ap p (sym q) ∙ h
      go false h rest e (inr k) = rest e k

  pub any-has : (p : A → Bool) (xs : List A) → list_any p xs ≡ true → (x : A) × Has xs x × (p x ≡ true)
  any-has p [] e = cc
  any-has p (y ∷ xs) e = elim (p y) as (λ b. p y ≡ b → (b || list_any p xs) ≡ true → (x : A) × Has (y ∷ xs) x × (p x ≡ true)) [
    | true ↦ λ t _. (y, inl refl, t)
    | false ↦ λ _ f. (let r = any-has p xs f in (r.0, inr r.1, r.2))
  ] refl e

  pub has-any : (p : A → Bool) (xs : List A) (x : A) → Has xs x → p x ≡ true → list_any p xs ≡ true
  has-any p [] x h e = absurd h
  has-any p (y ∷ xs) x (inl q) e = rw (ap p q ∙ e) refl
  has-any p (y ∷ xs) x (inr h) e = elim (p y) as (λ b. (b || list_any p xs) ≡ true) [ true ↦ refl | false ↦ has-any p xs x h e ]

  -- ## Distinct

  pub distinct-has : {K : Type 0} (key : A → K) (xs : List A) (x y : A) → AreDistinct key xs → Has xs x → Has xs y → key x ≡ key y → x ≡ y
  distinct-has key [] x y a h k e = absurd h
  distinct-has key (z ∷ xs) x y a (inl p) (inl q) e = sym p ∙ q
  distinct-has key (z ∷ xs) x y a (inl p) (inr k) e = absurd (all-has (λ w. key w ≢ key z) xs y a.0 k (sym e ∙ ap key (sym p)))
  distinct-has key (z ∷ xs) x y a (inr h) (inl q) e = absurd (all-has (λ w. key w ≢ key z) xs x a.0 h (e ∙ ap key (sym q)))
  distinct-has key (z ∷ xs) x y a (inr h) (inr k) e = distinct-has key xs x y a.1 h k e

  pub first-distinct : {K : Type 0} (key : A → K) (xs : List A) (p : A → Bool) (x : A) → AreDistinct key xs → Has xs x → p x ≡ true → ((y : A) → p y ≡ true → key y ≡ key x) → find p xs ≡ Some x
  first-distinct key xs p x a h t same = go (find p xs) refl
    where
      go : (o : Option A) → find p xs ≡ o → find p xs ≡ Some x
      go None e = absurd (true-false t (none-has p xs x e h))
      go (Some y) e = let r = first-has p xs y e in e ∙ ap (λ z. Some z) (distinct-has key xs y x a r.0 h (same y r.1))

  pub has-filter_map : {K : Type 0} (g : A → Option K) (xs : List A) (x : A) (k : K) → Has xs x → g x ≡ Some k → Has (filter_map g xs) k
  has-filter_map g [] x k h e = absurd h
  has-filter_map {K} g (y ∷ xs) x k h e = go (g y) refl (λ h. has-filter_map g xs x k h e) h
    where
      go : (o : Option K) → g y ≡ o → (Has xs x → Has (filter_map g xs) k) → (y ≡ x) ⊎ Has xs x → Has (filter_map g (y ∷ xs)) k
      go None f rest (inl q) = let bad : None ≡ Some k = sym f ∙ ap g q ∙ e in cc
      go None f rest (inr h) = rw f (rest h)
      go (Some j) f rest (inl q) = rw f (inl (let s : Some j ≡ Some k = sym f ∙ ap g q ∙ e in cc))
      go (Some j) f rest (inr h) = rw f (inr (rest h))

  -- items that have one key, where the keys of those that have one are distinct
  pub distinct-filter_map : {K : Type 0} (g : A → Option K) (xs : List A) (x y : A) (k : K) → AreDistinct (λ (j : K). j) (filter_map g xs) → Has xs x → Has xs y → g x ≡ Some k → g y ≡ Some k → x ≡ y
  distinct-filter_map g [] x y k a h i e f = absurd h
  distinct-filter_map {K} g (z ∷ xs) x y k a h i e f = go (g z) refl (λ a h i. distinct-filter_map g xs x y k a h i e f) a h i
    where
      go : (o : Option K) → g z ≡ o → (AreDistinct (λ (j : K). j) (filter_map g xs) → Has xs x → Has xs y → x ≡ y) → AreDistinct (λ (j : K). j) (filter_map g (z ∷ xs)) → (z ≡ x) ⊎ Has xs x → (z ≡ y) ⊎ Has xs y → x ≡ y
      go None q rest a (inl p) i = let bad : None ≡ Some k = sym q ∙ ap g p ∙ e in cc
      go None q rest a (inr h) (inl p) = let bad : None ≡ Some k = sym q ∙ ap g p ∙ f in cc
      go None q rest a (inr h) (inr i) = rest (rw q at a) h i
      go (Some j) q rest a (inl p) (inl r) = sym p ∙ r
      go (Some j) q rest a (inl p) (inr i) =
          let s : j ≡ k = let s : Some j ≡ Some k = sym q ∙ ap g p ∙ e in cc in
          absurd (all-has (λ w. w ≢ j) (filter_map g xs) k (rw q at a).0 (has-filter_map g xs y k i f) (sym s))
      go (Some j) q rest a (inr h) (inl p) =
          let s : j ≡ k = let s : Some j ≡ Some k = sym q ∙ ap g p ∙ f in cc in
          absurd (all-has (λ w. w ≢ j) (filter_map g xs) k (rw q at a).0 (has-filter_map g xs x k h e) (sym s))
      go (Some j) q rest a (inr h) (inr i) = rest (rw q at a).1 h i

-- in lists joined end to end, of which no two items have one key, the items of one key come from one list
pub distinct-between : {A K : Type 0} (key : A → K) (xs ys : List A) (x y : A) → AreDistinct key (xs ++ ys) → Has xs x → Has ys y → key y ≢ key x
distinct-between key [] ys x y a h i = absurd h
distinct-between key (z ∷ xs) ys x y a (inl e) i = λ q. all-has (λ w. key w ≢ key z) (xs ++ ys) y a.0 (append_right xs ys y i) (q ∙ ap key (sym e))
distinct-between key (z ∷ xs) ys x y a (inr h) i = distinct-between key xs ys x y a.1 h i

pub distinct-right : {A K : Type 0} (key : A → K) (xs ys : List A) → AreDistinct key (xs ++ ys) → AreDistinct key ys
distinct-right key [] ys a = a
distinct-right key (x ∷ xs) ys a = distinct-right key xs ys a.1

pub distinct-left : {A K : Type 0} (key : A → K) (xs ys : List A) → AreDistinct key (xs ++ ys) → AreDistinct key xs
distinct-left key [] ys a = tt
distinct-left key (x ∷ xs) ys a = (has-all (λ w. key w ≢ key x) xs (λ w h. all-has (λ w. key w ≢ key x) (xs ++ ys) w a.0 (append_left xs ys w h)), distinct-left key xs ys a.1)

pub distinct-append : {A K : Type 0} (key : A → K) (xs ys : List A) → AreDistinct key xs → AreDistinct key ys → ((x y : A) → Has xs x → Has ys y → key y ≢ key x) → AreDistinct key (xs ++ ys)
distinct-append key [] ys a b c = b
distinct-append key (x ∷ xs) ys a b c = (
  has-all (λ w. key w ≢ key x) (xs ++ ys) (λ w h. elim (has-append xs ys w h) [ inl i ↦ all-has (λ w. key w ≢ key x) xs w a.0 i | inr i ↦ c x w (inl refl) i ]),
  distinct-append key xs ys a.1 b (λ y z h i. c y z (inr h) i),
)

pub one_list : {A B K : Type 0} (f : A → List B) (key : B → K) (xs : List A) (g h : A) (x y : B) → AreDistinct key (flat_map f xs) → Has xs g → Has xs h → Has (f g) x → Has (f h) y → key x ≡ key y → g ≡ h
one_list f key [] g h x y a p q i j e = absurd p
one_list f key (z ∷ xs) g h x y a (inl p) (inl q) i j e = sym p ∙ q
one_list f key (z ∷ xs) g h x y a (inl p) (inr q) i j e = absurd (distinct-between key (f z) (flat_map f xs) x y a (subst (λ z. Has (f z) x) (sym p) i) (flat_map-has f xs h y q j) (sym e))
one_list f key (z ∷ xs) g h x y a (inr p) (inl q) i j e = absurd (distinct-between key (f z) (flat_map f xs) y x a (subst (λ z. Has (f z) y) (sym q) j) (flat_map-has f xs g x p i) e)
one_list f key (z ∷ xs) g h x y a (inr p) (inr q) i j e = one_list f key xs g h x y (distinct-right key (f z) (flat_map f xs) a) p q i j e

pub list_distinct : {A B K : Type 0} (f : A → List B) (key : B → K) (xs : List A) (g : A) → AreDistinct key (flat_map f xs) → Has xs g → AreDistinct key (f g)
list_distinct f key [] g a h = absurd h
list_distinct f key (z ∷ xs) g a (inl e) = subst (λ z. AreDistinct key (f z)) e (distinct-left key (f z) (flat_map f xs) a)
list_distinct f key (z ∷ xs) g a (inr h) = list_distinct f key xs g (distinct-right key (f z) (flat_map f xs) a) h

-- ## Sifted

pub distinct-filter : {A K : Type 0} (key : A → K) (k : A → Bool) (xs : List A) → AreDistinct key xs → AreDistinct key (filter k xs)
distinct-filter key k [] a = tt
distinct-filter {A} key k (x ∷ xs) a = go (k x) (distinct-filter key k xs a.1)
  where
    go : (b : Bool) → AreDistinct key (filter k xs) → AreDistinct key (cond b (x ∷ filter k xs) (filter k xs))
    go true rest = (has-all (λ y. key y ≢ key x) (filter k xs) (λ y h. all-has (λ y. key y ≢ key x) xs y a.0 (filtered k xs y h).0), rest)
    go false rest = rest
