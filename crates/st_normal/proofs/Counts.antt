-- How often a node is in a list, and in lists that are joined.
use Rattle.std.proofs.Common.{◌≡◌, ◌≢◌, ◌+◌, ◌≤◌, ℕ, Bool, true, false, List, [], ◌∷◌, ◌++◌, map, refl, sym, ap, ◌∙◌, arith, inl, inr, ◌⊎◌}
use Rattle.std.specs.List.{AllByRecursion, flat_map}
use Rattle.st_ids.specs.Listing.{AreDistinct, Has}
use Rattle.st_ids.specs.Order.{same_node}
use Rattle.st_ids.specs.declared.names.NodeId.{NodeId}
use Rattle.st_ids.proofs.Orders.{same_node-true, same_node-itself}

abbrev pub one : Bool → ℕ
one true = 1
one false = 0

-- how often
abbrev pub times : NodeId → List NodeId → ℕ
times n [] = 0
times n (m ∷ ms) = one (same_node m n) + times n ms

pub times-append : (n : NodeId) (xs ys : List NodeId) → times n (xs ++ ys) ≡ times n xs + times n ys
times-append n [] ys = omega arith
times-append n (x ∷ xs) ys = omega (arith, times-append n xs ys)

pub times-all : {A : Type 0} (n : NodeId) (f g h : A → List NodeId) → ((x : A) → times n (f x) ≤ times n (g x) + times n (h x)) → (xs : List A) → times n (flat_map f xs) ≤ times n (flat_map g xs) + times n (flat_map h xs)
times-all n f g h l [] = omega arith
times-all n f g h l (x ∷ xs) = omega (arith, l x, times-all n f g h l xs, times-append n (f x) (flat_map f xs), times-append n (g x) (flat_map g xs), times-append n (h x) (flat_map h xs))

pub times-has : (n : NodeId) (xs : List NodeId) → Has xs n → 1 ≤ times n xs
times-has n [] h = absurd h
times-has n (x ∷ xs) (inl e) = let s : one (same_node x n) ≡ 1 = ap one (ap (λ y. same_node y n) e ∙ same_node-itself n) in omega arith
times-has n (x ∷ xs) (inr h) = omega (arith, times-has n xs h)

pub times-none : (n : NodeId) (xs : List NodeId) → (Has xs n → ⊥) → times n xs ≡ 0
times-none n [] h = refl
times-none n (x ∷ xs) h = go (same_node x n) refl (times-none n xs (λ i. h (inr i)))
  where
    go : (b : Bool) → same_node x n ≡ b → times n xs ≡ 0 → one (same_node x n) + times n xs ≡ 0
    go true e rest = absurd (h (inl (same_node-true x n e)))
    go false e rest = let s : one (same_node x n) ≡ 0 = ap one e in omega arith

pub has-times : (n : NodeId) (xs : List NodeId) → 1 ≤ times n xs → Has xs n
has-times n [] l = absurd (omega (arith, l))
has-times n (x ∷ xs) l = go (same_node x n) refl (λ m. has-times n xs m)
  where
    go : (b : Bool) → same_node x n ≡ b → (1 ≤ times n xs → Has xs n) → (x ≡ n) ⊎ Has xs n
    go true e rest = inl (same_node-true x n e)
    go false e rest = let s : one (same_node x n) ≡ 0 = ap one e in inr (rest (omega (arith, l)))

pub once-times : {A : Type 0} (key : A → NodeId) (xs : List A) → AreDistinct key xs → (n : NodeId) → times n (map key xs) ≤ 1
once-times key [] d n = omega arith
once-times {A} key (x ∷ xs) d n = go (same_node (key x) n) refl (once-times key xs d.1 n)
  where
    absent : (ys : List A) → AllByRecursion (λ y. key y ≢ key x) ys → key x ≡ n → Has (map key ys) n → ⊥
    absent [] a e h = h
    absent (y ∷ ys) a e (inl f) = a.0 (f ∙ sym e)
    absent (y ∷ ys) a e (inr h) = absent ys a.1 e h

    go : (b : Bool) → same_node (key x) n ≡ b → times n (map key xs) ≤ 1 → one (same_node (key x) n) + times n (map key xs) ≤ 1
    go true e rest = let s : one (same_node (key x) n) ≡ 1 = ap one e in let z = times-none n (map key xs) (absent xs d.0 (same_node-true (key x) n e)) in omega (arith, z)
    go false e rest = let s : one (same_node (key x) n) ≡ 0 = ap one e in omega (arith, rest)

pub times-once : {A : Type 0} (key : A → NodeId) (xs : List A) → ((n : NodeId) → times n (map key xs) ≤ 1) → AreDistinct key xs
times-once key [] l = tt
times-once {A} key (x ∷ xs) l = (apart xs none, times-once key xs (λ n. omega (arith, l n)))
  where
    none : times (key x) (map key xs) ≡ 0
    none = let s : one (same_node (key x) (key x)) ≡ 1 = ap one (same_node-itself (key x)) in omega (arith, l (key x))

    apart : (ys : List A) → times (key x) (map key ys) ≡ 0 → AllByRecursion (λ y. key y ≢ key x) ys
    apart [] e = tt
    apart (y ∷ ys) e = (
      λ f. let s : one (same_node (key y) (key x)) ≡ 1 = ap one (ap (λ z. same_node z (key x)) f ∙ same_node-itself (key x)) in absurd (omega (arith, e)),
      apart ys (omega (arith, e)),
    )
