-- Where no node that is put is above itself, no ring is with_names.
use Rattle.std.proofs.Common.{◌≡◌, ◌≢◌, ℕ, zero, suc, ◌≤◌, ◌<◌, Bool, true, false, List, [], ◌∷◌, length, Option, Some, None, cond, refl, sym, ap, ◌∙◌, arith, inl, inr, ◌⊎◌}
use Rattle.st_ids.specs.declared.names.NodeId.{NodeId}
use Rattle.st_ids.specs.Listing.{Has}
use Rattle.st_ids.specs.Order.{same_node}
use Rattle.st_ids.proofs.Orders.{same_node-true, same_node-itself}
use Rattle.st_marks.specs.Document.{climb, ClimbsToAnEnd}
use Rattle.st_marks.proofs.Climb.{climb_end, ends_above}

abbrev pub without_node : NodeId → List NodeId → List NodeId
without_node p [] = []
without_node p (q ∷ qs) = cond (same_node q p) (without_node p qs) (q ∷ without_node p qs)

pub no_longer : (p : NodeId) (qs : List NodeId) → length (without_node p qs) ≤ length qs
no_longer p [] = omega arith
no_longer p (q ∷ qs) = elim (same_node q p) as (λ b. length (cond b (without_node p qs) (q ∷ without_node p qs)) ≤ suc (length qs)) [ true ↦ omega (arith, no_longer p qs) | false ↦ omega (arith, no_longer p qs) ]

pub shorter : (p : NodeId) (qs : List NodeId) → Has qs p → length (without_node p qs) < length qs
shorter p [] h = absurd h
shorter p (q ∷ qs) (inl e) = rw (ap (λ x. same_node x p) e ∙ same_node-itself p) (omega (arith, no_longer p qs))
shorter p (q ∷ qs) (inr h) = elim (same_node q p) as (λ b. length (cond b (without_node p qs) (q ∷ without_node p qs)) < suc (length qs)) [ true ↦ omega (arith, no_longer p qs) | false ↦ omega (arith, shorter p qs h) ]

pub others : (p q : NodeId) (qs : List NodeId) → Has qs q → q ≢ p → Has (without_node p qs) q
others p q [] h apart = absurd h
others p q (r ∷ qs) (inl e) apart =
    elim (same_node r p) as (λ b. same_node r p ≡ b → Has (cond b (without_node p qs) (r ∷ without_node p qs)) q) [
      | true ↦ λ t. absurd (apart (sym e ∙ same_node-true r p t))
      | false ↦ λ t. inl e
    ] refl
others p q (r ∷ qs) (inr h) apart =
    let rest = others p q qs h apart in
    elim (same_node r p) as (λ b. Has (cond b (without_node p qs) (r ∷ without_node p qs)) q) [ true ↦ rest | false ↦ inr rest ]

abbrev Reaches : (NodeId → Option NodeId) → NodeId → NodeId → Type 0
Reaches up n q = (k : ℕ) × (climb up k n ≡ Some q)

pub reaches_above : (up : NodeId → Option NodeId) (n m q : NodeId) → up n ≡ Some m → Reaches up m q → Reaches up n q
reaches_above up n m q e r = (suc r.0, rw e r.1)

module _ (up base : NodeId → Option NodeId) (put : NodeId → Bool) (follows : (n : NodeId) → put n ≡ false → (up n ≡ None) ⊎ (up n ≡ base n)) (ends : (n : NodeId) → ClimbsToAnEnd base n) (no_ring : (p : NodeId) → put p ≡ true → (k : ℕ) → climb up (suc k) p ≢ Some p) where
  abbrev Claim : List NodeId → Type 0
  Claim R = (n : NodeId) → ((q : NodeId) → put q ≡ true → Reaches up n q → Has R q) → ClimbsToAnEnd up n

  -- from a node that is put, with claims on the lists that are shorter
  from_put : (R : List NodeId) → ((S : List NodeId) → length S < length R → Claim S) → (p : NodeId) → put p ≡ true → ((q : NodeId) → put q ≡ true → Reaches up p q → Has R q) → ClimbsToAnEnd up p
  from_put R claim p is h = go (up p) refl
    where
      go : (o : Option NodeId) → up p ≡ o → ClimbsToAnEnd up p
      go None e = climb_end up p e
      go (Some m) e = ends_above up p m e
          (claim (without_node p R) (shorter p R (h p is (0, refl))) m
          (λ q put_q r. others p q R (h q put_q (reaches_above up p m q e r))
          (λ same. no_ring p is r.0 (rw e (r.1 ∙ ap (λ x. Some x) same)))))

  walk : (R : List NodeId) → ((S : List NodeId) → length S < length R → Claim S) → (k : ℕ) (n : NodeId) → climb base k n ≡ None → ((q : NodeId) → put q ≡ true → Reaches up n q → Has R q) → ClimbsToAnEnd up n
  walk R claim zero n e h = cc
  walk R claim (suc k) n e h = go (put n) refl (up n) refl (λ m f. walk R claim k m f)
    where
      go : (b : Bool) → put n ≡ b → (o : Option NodeId) → up n ≡ o → ((m : NodeId) → climb base k m ≡ None → ((q : NodeId) → put q ≡ true → Reaches up m q → Has R q) → ClimbsToAnEnd up m) → ClimbsToAnEnd up n
      go true is o f rest = from_put R claim n is h
      go false is None f rest = climb_end up n f
      go false is (Some m) f rest = ends_above up n m f (rest m (next (follows n is)) (λ q put_q r. h q put_q (reaches_above up n m q f r)))
        where
          next : (up n ≡ None) ⊎ (up n ≡ base n) → climb base k m ≡ None
          next (inl g) = let bad : Some m ≡ None = sym f ∙ g in cc
          next (inr g) = let here : base n ≡ Some m = sym g ∙ f in rw here at e

  all_lists : (k : ℕ) (R : List NodeId) → length R < k → Claim R
  all_lists zero R l n h = absurd (omega arith)
  all_lists (suc k) R l n h =
      let e = ends n in
      walk R (λ S s. all_lists k S (omega arith)) e.0 n e.1 h

  pub no_ring_made : (R : List NodeId) → ((q : NodeId) → put q ≡ true → Has R q) → (n : NodeId) → ClimbsToAnEnd up n
  no_ring_made R all n = all_lists (suc (length R)) R (omega arith) n (λ q is r. all q is)
