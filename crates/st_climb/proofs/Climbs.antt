-- A set that grows by climbing from names upwards.
use Rattle.std.proofs.Common.{◌≡◌, ℕ, zero, suc, ◌+◌, ◌*◌, ◌≤◌, ◌<◌, Bool, true, false, cond, List, [], ◌∷◌, Option, Some, None, refl, sym, ap, ◌∙◌, subst, arith, inl, inr, ◌⊎◌, option_and_then}
use Rattle.st_ids.specs.Listing.{Has}
use Rattle.st_ids.specs.Order.{same_node}
use Rattle.st_ids.specs.declared.names.NodeId.{NodeId}
use Rattle.st_ids.proofs.Orders.{same_node-true, same_node-itself}
use Rattle.st_marks.specs.Document.{climb}
use Rattle.st_marks.proofs.Climb.{climb_more}
use Rattle.st_climb.specs.Upwards.{GainsUpwards, IsClosed, LeadsUp}

-- how many of the keys are not in a set
abbrev pub missing : List NodeId → (NodeId → Bool) → ℕ
missing [] has = 0
missing (k ∷ ks) has = cond (has k) 0 1 + missing ks has

abbrev pub flag : Option NodeId → ℕ
flag None = 0
flag (Some n) = 1

-- what a climb from a node has gathered beside what was there: the next node is all that is left to be gone on from
pub record Climbing (up : NodeId → Option NodeId) (old has : NodeId → Bool) (node : NodeId) (next : Option NodeId) : Type 0 where
  pub closed : (n m : NodeId) → has n ≡ true → up n ≡ Some m → (has m ≡ true) ⊎ (next ≡ Some m)
  pub begun : (has node ≡ true) ⊎ (next ≡ Some node)
  pub kept : (n : NodeId) → old n ≡ true → has n ≡ true
  pub reached : (n : NodeId) → has n ≡ true → (old n ≡ true) ⊎ LeadsUp up node n
  pub next_reached : (n : NodeId) → next ≡ Some n → LeadsUp up node n

module _ (up : NodeId → Option NodeId) (old : NodeId → Bool) (node : NodeId) where
  -- before the first step
  pub climb_begun : IsClosed up old → Climbing up old old node (Some node)
  climb_begun whole = record {
    closed = λ n m h u. inl (whole n m h u);
    begun = inr refl;
    kept = λ n h. h;
    reached = λ n h. inl h;
    next_reached = λ n e. (0, e);
  }

  -- one step up
  pub climbed : (has new : NodeId → Bool) (here : NodeId) (next next_up : Option NodeId) → ((n : NodeId) → new n ≡ cond (same_node here n) true (has n)) → next ≡ Some here → next_up ≡ up here
      → Climbing up old has node next → Climbing up old new node next_up
  climbed has new here next next_up added at step w = record {
    closed = λ n m h u. from_new n m u (split n h);
    begun = onward node w.begun;
    kept = λ n h. stays n (w.kept n h);
    reached = λ n h. from n (split n h);
    next_reached = λ n h. let r = w.next_reached here at in (suc r.0, climb_more up r.0 node here n r.1 (sym step ∙ h));
  }
    where
      stays : (n : NodeId) → has n ≡ true → new n ≡ true
      stays n h = added n ∙ go (same_node here n)
        where
          go : (b : Bool) → cond b true (has n) ≡ true
          go true = refl
          go false = h

      itself : (n : NodeId) → here ≡ n → new n ≡ true
      itself n e = added n ∙ ap (λ b. cond b true (has n)) (ap (same_node here) (sym e) ∙ same_node-itself here)

      split : (n : NodeId) → new n ≡ true → (here ≡ n) ⊎ (has n ≡ true)
      split n h = go (same_node here n) refl (sym (added n) ∙ h)
        where
          go : (b : Bool) → same_node here n ≡ b → cond b true (has n) ≡ true → (here ≡ n) ⊎ (has n ≡ true)
          go true e k = inl (same_node-true here n e)
          go false e k = inr k

      onward : (m : NodeId) → (has m ≡ true) ⊎ (next ≡ Some m) → (new m ≡ true) ⊎ (next_up ≡ Some m)
      onward m (inl h) = inl (stays m h)
      onward m (inr e) = inl (itself m (let s : Some here ≡ Some m = sym at ∙ e in cc))

      from_new : (n m : NodeId) → up n ≡ Some m → (here ≡ n) ⊎ (has n ≡ true) → (new m ≡ true) ⊎ (next_up ≡ Some m)
      from_new n m u (inl e) = inr (step ∙ ap up e ∙ u)
      from_new n m u (inr h) = onward m (w.closed n m h u)

      from : (n : NodeId) → (here ≡ n) ⊎ (has n ≡ true) → (old n ≡ true) ⊎ LeadsUp up node n
      from n (inl e) = inr (subst (LeadsUp up node) e (w.next_reached here at))
      from n (inr h) = w.reached n h

  -- where nothing is left to be gone on from, the set gained exactly the node and all above it
  pub climbed_all : (has : NodeId → Bool) (next : Option NodeId) → ((m : NodeId) → next ≡ Some m → has m ≡ true) → Climbing up old has node next → GainsUpwards up old node has
  climbed_all has next over w m = (
    w.reached m,
    λ s. elim s [
      | inl h ↦ w.kept m h
      | inr r ↦ on r.0 node (in_set node w.begun) r.1
    ],
  )
    where
      in_set : (n : NodeId) → (has n ≡ true) ⊎ (next ≡ Some n) → has n ≡ true
      in_set n (inl h) = h
      in_set n (inr e) = over n e

      on_from : (k : ℕ) (o : Option NodeId) → ((n : NodeId) → has n ≡ true → climb up k n ≡ Some m → has m ≡ true) → ((n : NodeId) → o ≡ Some n → has n ≡ true)
          → option_and_then (climb up k) o ≡ Some m → has m ≡ true
      on_from k None rest there e = cc
      on_from k (Some p) rest there e = rest p (there p refl) e

      on : (k : ℕ) (n : NodeId) → has n ≡ true → climb up k n ≡ Some m → has m ≡ true
      on zero n h e = let s : n ≡ m = cc in ap has (sym s) ∙ h
      on (suc k) n h e = on_from k (up n) (λ p q f. on k p q f) (λ p u. in_set p (w.closed n p h u)) e

-- ## Why it ends

module _ (has new : NodeId → Bool) (x : NodeId) (added : (n : NodeId) → new n ≡ cond (same_node x n) true (has n)) (out : has x ≡ false) where
  one : (k : NodeId) → cond (new k) 0 1 ≤ cond (has k) 0 1
  one k = rw (added k) (go (same_node x k) (has k))
    where
      go : (a b : Bool) → cond (cond a true b) 0 1 ≤ cond b 0 1
      go true true = omega arith
      go true false = omega arith
      go false true = omega arith
      go false false = omega arith

  missing_at_most : (ks : List NodeId) → missing ks new ≤ missing ks has
  missing_at_most [] = omega arith
  missing_at_most (k ∷ ks) = omega (arith, one k, missing_at_most ks)

  -- a node of the list that came in is missed no more
  missing_less : (ks : List NodeId) → Has ks x → missing ks new < missing ks has
  missing_less [] h = absurd h
  missing_less (k ∷ ks) (inl e) =
      let was : has k ≡ false = ap has e ∙ out in
      let now : new k ≡ true = added k ∙ ap (λ b. cond b true (has k)) (ap (same_node x) e ∙ same_node-itself x) in
      rw (was, now) (omega (arith, missing_at_most ks))
  missing_less (k ∷ ks) (inr h) = omega (arith, one k, missing_less ks h)

  -- where each node with another above it is in the list
  pub climbed_less : (up : NodeId → Option NodeId) (ks : List NodeId) → ((n m : NodeId) → up n ≡ Some m → Has ks n) → (next next_up : Option NodeId) → next ≡ Some x → next_up ≡ up x
      → 2 * missing ks new + flag next_up < 2 * missing ks has + flag next
  climbed_less up ks listed next next_up at step = go next_up refl
    where
      go : (o : Option NodeId) → next_up ≡ o → 2 * missing ks new + flag next_up < 2 * missing ks has + flag next
      go None e = rw (e, at) (omega (arith, missing_at_most ks))
      go (Some p) e = rw (e, at) (omega (arith, missing_less ks (listed x p (sym step ∙ e))))
