-- A climb that leads to a node leads there within as many steps as there are nodes that stand above others.
use Rattle.std.proofs.Common.{◌≡◌, ℕ, zero, suc, ◌+◌, ◌≤◌, ◌<◌, true, false, Bool, List, [], ◌∷◌, length, Option, Some, None, option_and_then, refl, sym, ap, ◌∙◌, arith, inl, inr, ◌⊎◌}
use Rattle.std.proofs.lemmas.Option.{same_Some}
use Rattle.st_ids.specs.Listing.{Has}
use Rattle.st_ids.specs.Order.{same_node}
use Rattle.st_ids.specs.declared.names.NodeId.{NodeId}
use Rattle.st_ids.proofs.Orders.{same_node-itself, same_node-true}
use Rattle.st_lemmas.proofs.Bools.{true-false}
use Rattle.st_marks.specs.Document.{Reaches, climb}
use Rattle.st_marks.specs.Intent.{same_option}
use Rattle.st_marks.proofs.NoRing.{others, shorter, without_node}

long_enough : (R : List NodeId) (q : NodeId) → Has R q → 0 < length R
long_enough [] q h = absurd h
long_enough (r ∷ R) q h = omega arith

pub below-suc : (i k : ℕ) → i < suc k → (i ≡ k) ⊎ (i < k)
below-suc zero zero l = inl refl
below-suc zero (suc k) l = inr (omega arith)
below-suc (suc i) zero l = absurd (omega (arith, l))
below-suc (suc i) (suc k) l = elim (below-suc i k (omega (arith, l))) [ inl e ↦ inl (ap suc e) | inr h ↦ inr (omega (arith, h)) ]

pub less_or_not : (k t : ℕ) → (k < t) ⊎ (t ≤ k)
less_or_not k zero = inr (omega arith)
less_or_not zero (suc t) = inl (omega arith)
less_or_not (suc k) (suc t) = elim (less_or_not k t) [ inl l ↦ inl (omega (arith, l)) | inr l ↦ inr (omega (arith, l)) ]

-- a test that holds at a number below another, or at none
some_below : (b : ℕ → Bool) (k : ℕ) → ((i : ℕ) × (i < k) × (b i ≡ true)) ⊎ ((i : ℕ) → i < k → b i ≡ true → ⊥)
some_below b zero = inr (λ i l e. absurd (omega (arith, l)))
some_below b (suc k) = go (b k) refl (some_below b k)
  where
    go : (z : Bool) → b k ≡ z → ((i : ℕ) × (i < k) × (b i ≡ true)) ⊎ ((i : ℕ) → i < k → b i ≡ true → ⊥) → ((i : ℕ) × (i < suc k) × (b i ≡ true)) ⊎ ((i : ℕ) → i < suc k → b i ≡ true → ⊥)
    go true e t = inl (k, omega arith, e)
    go false e (inl t) = inl (t.0, omega (arith, t.1), t.2)
    go false e (inr t) = inr (λ i l h. elim (below-suc i k l) [ inl q ↦ true-false h (ap b q ∙ e) | inr q ↦ t i q h ])

pub is_some_node : (o : Option NodeId) (p : NodeId) → same_option same_node o (Some p) ≡ true → o ≡ Some p
is_some_node None p e = cc
is_some_node (Some n) p e = ap (λ x. Some x) (same_node-true n p e)

pub some_node_is : (o : Option NodeId) (p : NodeId) → o ≡ Some p → same_option same_node o (Some p) ≡ true
some_node_is o p e = ap (λ x. same_option same_node x (Some p)) e ∙ same_node-itself p

module _ (up : NodeId → Option NodeId) where
  -- a step up and then a climb
  stepped : (k : ℕ) (n p m : NodeId) → up n ≡ Some p → climb up k p ≡ Some m → climb up (suc k) n ≡ Some m
  stepped k n p m h e = ap (option_and_then (climb up k)) h ∙ e

  -- a climb behind its first step
  behind : (k : ℕ) (n p m : NodeId) → up n ≡ Some p → climb up (suc k) n ≡ Some m → climb up k p ≡ Some m
  behind k n p m h e = ap (option_and_then (climb up k)) (sym h) ∙ e

  pub starts : (k : ℕ) (n m : NodeId) → climb up (suc k) n ≡ Some m → up n ≡ None → ⊥
  starts k n m e h = let bad : None ≡ Some m = ap (option_and_then (climb up k)) (sym h) ∙ e in cc

  -- what is left of a climb behind its first steps
  pub rest : (i k : ℕ) (n p m : NodeId) → i ≤ k → climb up i n ≡ Some p → climb up k n ≡ Some m → (r : ℕ) × (r + i ≡ k) × (climb up r p ≡ Some m)
  rest zero k n p m l e f = (k, omega arith, ap (climb up k) (sym (same_Some n p e)) ∙ f)
  rest (suc i) zero n p m l e f = absurd (omega (arith, l))
  rest (suc i) (suc k) n p m l e f = go (up n) refl (λ q a b. rest i k q p m (omega (arith, l)) a b)
    where
      go : (o : Option NodeId) → up n ≡ o → ((q : NodeId) → climb up i q ≡ Some p → climb up k q ≡ Some m → (r : ℕ) × (r + i ≡ k) × (climb up r p ≡ Some m)) → (r : ℕ) × (r + suc i ≡ suc k) × (climb up r p ≡ Some m)
      go None h on = absurd (starts i n p e h)
      go (Some q) h on = let t = on q (behind i n q p h e) (behind k n q m h f) in (t.0, omega (arith, t.1), t.2)

  abbrev pub Short : ℕ → List NodeId → NodeId → NodeId → Type 0
  Short l R n m = (j : ℕ) × (j < l) × (climb up (suc j) n ≡ Some m)

  abbrev Meets : ℕ → List NodeId → NodeId → Type 0
  Meets k R n = (i : ℕ) (q : NodeId) → i ≤ k → climb up (suc i) n ≡ Some q → Has R q

  -- what a climb meets is in a list, which bounds a shorter one
  short : (fuel k : ℕ) → k < fuel → (R : List NodeId) (n m : NodeId) → climb up (suc k) n ≡ Some m → Meets k R n → Short (length R) R n m
  short zero k l R n m e all = absurd (omega (arith, l))
  short (suc fuel) k l R n m e all = go (up n) refl k l e all (λ j. short fuel j)
    where
      go : (o : Option NodeId) → up n ≡ o → (k : ℕ) → k < suc fuel → climb up (suc k) n ≡ Some m → Meets k R n → ((k : ℕ) → k < fuel → (R : List NodeId) (n m : NodeId) → climb up (suc k) n ≡ Some m → Meets k R n → Short (length R) R n m) → Short (length R) R n m
      go None h k l e all claim = absurd (starts k n m e h)
      go (Some p) h zero l e all claim = (zero, long_enough R m (all zero m (omega arith) e), e)
      go (Some p) h (suc k) l e all claim = turn (some_below (λ i. same_option same_node (climb up (suc i) p) (Some p)) (suc k))
        where
          turn : ((i : ℕ) × (i < suc k) × (same_option same_node (climb up (suc i) p) (Some p) ≡ true)) ⊎ ((i : ℕ) → i < suc k → same_option same_node (climb up (suc i) p) (Some p) ≡ true → ⊥) → Short (length R) R n m
          turn (inl t) =
              let r = rest (suc t.0) (suc k) p p m (omega (arith, t.1)) (is_some_node (climb up (suc t.0) p) p t.2) (behind (suc k) n p m h e) in
              claim r.0 (omega (arith, l, r.1)) R n m (stepped r.0 n p m h r.2) (λ i q b. all i q (omega (arith, b, r.1)))
          turn (inr none) =
              let met = all zero p (omega arith) (stepped zero n p p h refl) in
              let t = claim k (omega (arith, l)) (without_node p R) p m (behind (suc k) n p m h e)
              (λ i q b c. others p q R (all (suc i) q (omega (arith, b)) (stepped (suc i) n p q h c)) (λ same. none i (omega (arith, b)) (some_node_is (climb up (suc i) p) p (c ∙ ap (λ x. Some x) same)))) in
              (suc t.0, omega (arith, t.1, shorter p R met), stepped (suc t.0) n p m h t.2)

  -- the last step of a climb
  pub last : (i : ℕ) (n q : NodeId) → climb up (suc i) n ≡ Some q → (x : NodeId) × (up x ≡ Some q)
  last zero n q e = go (up n) refl
    where
      go : (o : Option NodeId) → up n ≡ o → (x : NodeId) × (up x ≡ Some q)
      go None h = absurd (starts zero n q e h)
      go (Some p) h = (n, h ∙ behind zero n p q h e)
  last (suc i) n q e = go (up n) refl (λ p. last i p q)
    where
      go : (o : Option NodeId) → up n ≡ o → ((p : NodeId) → climb up (suc i) p ≡ Some q → (x : NodeId) × (up x ≡ Some q)) → (x : NodeId) × (up x ≡ Some q)
      go None h on = absurd (starts (suc i) n q e h)
      go (Some p) h on = on p (behind (suc i) n p q h e)

  -- where all that stand above others are in a list
  pub within : (R : List NodeId) → ((x q : NodeId) → up x ≡ Some q → Has R q) → (n m : NodeId) → Reaches up n m → Short (length R) R n m
  within R all n m r = short (suc r.0) r.0 (omega arith) R n m r.1 (λ i q l e. let x = last i n q e in all x.0 q x.1)
