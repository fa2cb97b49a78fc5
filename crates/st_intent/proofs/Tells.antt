-- Tests, and the facts that they tell.
use Rattle.std.proofs.Common.{◌≡◌, ◌≢◌, ◌↔◌, nat_lt, Bool, true, false, not, ◌&&◌, ◌||◌, List, [], ◌∷◌, length, Option, Some, None, refl, ap, ◌∙◌, arith, inl, inr, ◌⊎◌}
use Rattle.std.specs.List.{list_any, list_all, AllByRecursion, filter_map, flat_map}
use Rattle.std.proofs.lemmas.Bool.Decides.{nat_tests}
use Rattle.st_ids.specs.Listing.{AreDistinct}
use Rattle.st_marks.proofs.Members.{any-has, has-any, all-has, has-all, has-flat_map, flat_map-has, has-filter_map}
use Rattle.st_intent.specs.inside.Rules.{are_distinct}
use Rattle.st_ids.proofs.Shared.{filter-from}
use Rattle.st_lemmas.proofs.Bools.{true-false}

-- a test tells a fact
abbrev pub Tells : Bool → Type 0 → Type 0
Tells b P = (b ≡ true) ↔ P

pub tells_both : (a b : Bool) (P Q : Type 0) → Tells a P → Tells b Q → Tells (a && b) (P × Q)
tells_both true b P Q p q = (λ e. (p.0 refl, q.0 e), λ h. q.1 h.1)
tells_both false b P Q p q = (λ e. cc, λ h. absurd (true-false (p.1 h.0) refl))

pub tells_either : (a b : Bool) (P Q : Type 0) → Tells a P → Tells b Q → Tells (a || b) (P ⊎ Q)
tells_either true b P Q p q = (λ e. inl (p.0 refl), λ h. refl)
tells_either false b P Q p q = (λ e. inr (q.0 e), λ h. elim h [ inl x ↦ absurd (true-false (p.1 x) refl) | inr y ↦ q.1 y ])

pub tells_not : (a : Bool) (P : Type 0) → Tells a P → Tells (not a) (P → ⊥)
tells_not true P p = (λ e. cc, λ never. absurd (never (p.0 refl)))
tells_not false P p = (λ e h. true-false (p.1 h) refl, λ never. refl)

pub not_false : (a : Bool) → Tells (not a) (a ≡ false)
not_false true = (λ e. cc, λ e. absurd (true-false refl e))
not_false false = (λ e. refl, λ e. refl)

pub tells_as : (a : Bool) (P Q : Type 0) → (P → Q) → (Q → P) → Tells a P → Tells a Q
tells_as a P Q to from p = (λ e. to (p.0 e), λ q. p.1 (from q))

pub tells_all : {A : Type 0} (p : A → Bool) (P : A → Type 0) → ((x : A) → Tells (p x) (P x)) → (xs : List A) → Tells (list_all p xs) (AllByRecursion P xs)
tells_all p P h [] = (λ e. tt, λ x. refl)
tells_all p P h (x ∷ xs) = tells_both (p x) (list_all p xs) (P x) (AllByRecursion P xs) (h x) (tells_all p P h xs)

-- of each part of each item
pub tells_parts : {A B : Type 0} (f : A → List B) (p : B → Bool) (P : B → Type 0) → ((x : B) → Tells (p x) (P x)) → (xs : List A) → Tells (list_all (λ x. list_all p (f x)) xs) (AllByRecursion P (flat_map f xs))
tells_parts {A} {B} f p P h xs = (
  λ e. has-all P (flat_map f xs) (λ y k. let x = has-flat_map f xs y k in all-has P (f x.0) y (all-has (λ x. AllByRecursion P (f x)) xs x.0 (each.0 e) x.1) x.2),
  λ a. each.1 (has-all (λ x. AllByRecursion P (f x)) xs (λ x k. has-all P (f x) (λ y l. all-has P (flat_map f xs) y a (flat_map-has f xs x y k l)))),
)
  where
    each : Tells (list_all (λ x. list_all p (f x)) xs) (AllByRecursion (λ x. AllByRecursion P (f x)) xs)
    each = tells_all (λ x. list_all p (f x)) (λ x. AllByRecursion P (f x)) (λ x. tells_all p P h (f x)) xs

-- no item passes
tells_none : {A : Type 0} (p : A → Bool) (P : A → Type 0) → ((x : A) → Tells (p x) (P x)) → (xs : List A) → Tells (not (list_any p xs)) (AllByRecursion (λ x. P x → ⊥) xs)
tells_none p P h xs = (
  λ e. has-all (λ x. P x → ⊥) xs (λ x k q. true-false (has-any p xs x k ((h x).1 q)) ((not_false (list_any p xs)).0 e)),
  λ a. (not_false (list_any p xs)).1 (go (list_any p xs) refl a),
)
  where
    go : (b : Bool) → list_any p xs ≡ b → AllByRecursion (λ x. P x → ⊥) xs → list_any p xs ≡ false
    go false e a = e
    go true e a = let x = any-has p xs e in absurd (all-has (λ x. P x → ⊥) xs x.0 a x.1 ((h x.0).0 x.2))

-- no two items have one key
pub tells_apart : {A K : Type 0} (same : A → A → Bool) (key : A → K) → ((x y : A) → Tells (same y x) (key y ≡ key x)) → (xs : List A) → Tells (are_distinct same xs) (AreDistinct key xs)
tells_apart same key h [] = (λ e. tt, λ x. refl)
tells_apart same key h (x ∷ xs) =
    tells_both (not (list_any (λ y. same y x) xs)) (are_distinct same xs) (AllByRecursion (λ y. key y ≢ key x) xs) (AreDistinct key xs)
    (tells_none (λ y. same y x) (λ y. key y ≡ key x) (λ y. h x y) xs) (tells_apart same key h xs)

-- the same of the keys that are there
pub tells_apart_some : {A K : Type 0} (same : A → A → Bool) (key : A → Option K) → ((x y : A) (k : K) → key x ≡ Some k → Tells (same y x) (key y ≡ Some k)) → ((x y : A) → key x ≡ None → same y x ≡ false)
    → (xs : List A) → Tells (are_distinct same xs) (AreDistinct (λ (k : K). k) (filter_map key xs))
tells_apart_some same key h none [] = (λ e. tt, λ x. refl)
tells_apart_some {A} {K} same key h none (x ∷ xs) = go (key x) refl (tells_apart_some same key h none xs)
  where
    nothing : (ys : List A) → key x ≡ None → list_any (λ y. same y x) ys ≡ false
    nothing [] e = refl
    nothing (y ∷ ys) e = rw (none x y e) (nothing ys e)

    others : (k : K) → key x ≡ Some k → Tells (not (list_any (λ y. same y x) xs)) (AllByRecursion (λ j. j ≢ k) (filter_map key xs))
    others k e = tells_as (not (list_any (λ y. same y x) xs)) (AllByRecursion (λ y. key y ≡ Some k → ⊥) xs) (AllByRecursion (λ j. j ≢ k) (filter_map key xs))
        (λ a. has-all (λ j. j ≢ k) (filter_map key xs) (λ j l q. let y = filter-from key xs j l in all-has (λ y. key y ≡ Some k → ⊥) xs y.0 a y.1 (y.2 ∙ ap (λ i. Some i) q)))
        (λ a. has-all (λ y. key y ≡ Some k → ⊥) xs (λ y l q. all-has (λ j. j ≢ k) (filter_map key xs) k a (has-filter_map key xs y k l q) refl))
        (tells_none (λ y. same y x) (λ y. key y ≡ Some k) (λ y. h x y k e) xs)

    go : (o : Option K) → key x ≡ o → Tells (are_distinct same xs) (AreDistinct (λ (k : K). k) (filter_map key xs)) → Tells (not (list_any (λ y. same y x) xs) && are_distinct same xs) (AreDistinct (λ (k : K). k) (filter_map key (x ∷ xs)))
    go None e rest = rw (nothing xs e, e) rest
    go (Some k) e rest = rw e (tells_both (not (list_any (λ y. same y x) xs)) (are_distinct same xs) (AllByRecursion (λ j. j ≢ k) (filter_map key xs)) (AreDistinct (λ (j : K). j) (filter_map key xs)) (others k e) rest)

-- a list has something in it
pub tells_some : {A : Type 0} (xs : List A) → Tells (nat_lt 0 (length xs)) (xs ≢ [])
tells_some [] = (λ e. cc, λ h. absurd (h refl))
tells_some (x ∷ xs) = (λ e q. cc, λ h. grind (arith, nat_tests))
