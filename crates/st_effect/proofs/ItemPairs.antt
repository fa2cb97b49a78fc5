-- Two lists, item by item.
use Rattle.std.proofs.Common.{◌≡◌, ◌<◌, ◌+◌, ℕ, Bool, true, false, ◌&&◌, List, [], ◌∷◌, ◌++◌, map, length, take, get_or, Some, None, MatchOption, option_map, cond, refl, sym, ap, ◌∙◌, subst}
use Rattle.std.proofs.lemmas.List.{take_more}
use Rattle.std.specs.FinMap.Entries.{below_all, is_sorted}
use Rattle.std.specs.Ordering.{is_eq, is_lt}
use Rattle.std.specs.declared.cmp.Ordering.{Ordering}
use Rattle.st_ids.specs.Listing.{item_of, key_pairs}
use Rattle.st_effect.specs.inside.Listed.{AreListedAs}

-- ## What is found of a name

module _ {K A B : Type 0} (R : K → K → Ordering) (key : A → K) (name : B → K) (Becomes : A → B → Type 0) where
  -- an item is found in the second list where one is found in the first that becomes it
  pub matched : (xs : List A) (ys : List B) (k : K) (P : Type 0) (Q : B → Type 0) → AreListedAs key name Becomes xs ys
      → (item_of R key xs k ≡ None → P) → ((x : A) (y : B) → item_of R key xs k ≡ Some x → Becomes x y → Q y) → MatchOption (item_of R name ys k) P Q
  matched [] [] k P Q h none some = none refl
  matched [] (y ∷ ys) k P Q h none some = absurd h
  matched (x ∷ xs) [] k P Q h none some = absurd h
  matched (x ∷ xs) (y ∷ ys) k P Q h none some =
      subst (λ j. MatchOption (cond (is_eq (R k j)) (Some y) (item_of R name ys k)) P Q) (sym h.0) (go (is_eq (R k (key x))) refl (matched xs ys k P Q h.2))
    where
      here : (b : Bool) → is_eq (R k (key x)) ≡ b → item_of R key (x ∷ xs) k ≡ cond b (Some x) (item_of R key xs k)
      here b e = ap (λ z. cond z (Some x) (item_of R key xs k)) e

      go : (b : Bool) → is_eq (R k (key x)) ≡ b
          → ((item_of R key xs k ≡ None → P) → ((u : A) (v : B) → item_of R key xs k ≡ Some u → Becomes u v → Q v) → MatchOption (item_of R name ys k) P Q)
          → MatchOption (cond b (Some y) (item_of R name ys k)) P Q
      go true e rest = some x y (here true e) h.1
      go false e rest = rest (λ q. none (here false e ∙ q)) (λ u v q. some u v (here false e ∙ q))

  below_same : (xs : List A) (ys : List B) (k : K) → AreListedAs key name Becomes xs ys → below_all R k (key_pairs name ys) ≡ below_all R k (key_pairs key xs)
  below_same [] [] k h = refl
  below_same [] (y ∷ ys) k h = absurd h
  below_same (x ∷ xs) [] k h = absurd h
  below_same (x ∷ xs) (y ∷ ys) k h = λ i. is_lt (R k (h.0 i)) && below_same xs ys k h.2 i

  -- the second list rises where the first does
  pub rising_same : (xs : List A) (ys : List B) → AreListedAs key name Becomes xs ys → is_sorted R (key_pairs name ys) ≡ is_sorted R (key_pairs key xs)
  rising_same [] [] h = refl
  rising_same [] (y ∷ ys) h = absurd h
  rising_same (x ∷ xs) [] h = absurd h
  rising_same (x ∷ xs) (y ∷ ys) h = λ i. (ap (λ j. below_all R j (key_pairs name ys)) h.0 ∙ below_same xs ys (key x) h.2) i && rising_same xs ys h.2 i

-- ## One item more

more : {K A B : Type 0} (key : A → K) (name : B → K) (Becomes : A → B → Type 0) (xs : List A) (ys : List B) (x : A) (y : B)
    → AreListedAs key name Becomes xs ys → name y ≡ key x → Becomes x y → AreListedAs key name Becomes (xs ++ x ∷ []) (ys ++ y ∷ [])
more key name Becomes [] [] x y h e b = (e, b, tt)
more key name Becomes [] (v ∷ ys) x y h e b = absurd h
more key name Becomes (u ∷ xs) [] x y h e b = absurd h
more key name Becomes (u ∷ xs) (v ∷ ys) x y h e b = (h.0, h.1, more key name Becomes xs ys x y h.2 e b)

pub listed_on : {K A B : Type 0} (key : A → K) (name : B → K) (Becomes : A → B → Type 0) (xs : List A) (out new : List B) (i : ℕ) (x : A) (y : B) → i < length xs → x ≡ get_or xs i x
    → AreListedAs key name Becomes (take i xs) out → name y ≡ key x → Becomes x y → new ≡ out ++ y ∷ [] → AreListedAs key name Becomes (take (i + 1) xs) new
listed_on key name Becomes xs out new i x y l at h e b g =
    let front : take (i + 1) xs ≡ take i xs ++ x ∷ [] = take_more xs i x l ∙ ap (λ z. take i xs ++ z ∷ []) (sym at) in
    subst (λ k. AreListedAs key name Becomes k new) (sym front) (subst (AreListedAs key name Becomes (take i xs ++ x ∷ [])) (sym g) (more key name Becomes (take i xs) out x y h e b))

-- ## A list that is mapped

module _ {K A : Type 0} (R : K → K → Ordering) (key : A → K) (f : A → A) (keeps : (x : A) → key (f x) ≡ key x) where
  pub item_of-map : (xs : List A) (k : K) → item_of R key (map f xs) k ≡ option_map f (item_of R key xs k)
  item_of-map [] k = refl
  item_of-map (x ∷ xs) k = (λ i. cond (is_eq (R k (keeps x i))) (Some (f x)) (item_of-map xs k i)) ∙ go (is_eq (R k (key x)))
    where
      go : (b : Bool) → cond b (Some (f x)) (option_map f (item_of R key xs k)) ≡ option_map f (cond b (Some x) (item_of R key xs k))
      go true = refl
      go false = refl

  below-map : (xs : List A) (k : K) → below_all R k (key_pairs key (map f xs)) ≡ below_all R k (key_pairs key xs)
  below-map [] k = refl
  below-map (x ∷ xs) k = λ i. is_lt (R k (keeps x i)) && below-map xs k i

  pub rising-map : (xs : List A) → is_sorted R (key_pairs key (map f xs)) ≡ is_sorted R (key_pairs key xs)
  rising-map [] = refl
  rising-map (x ∷ xs) = λ i. (ap (λ j. below_all R j (key_pairs key (map f xs))) (keeps x) ∙ below-map xs (key x)) i && rising-map xs i
