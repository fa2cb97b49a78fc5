-- Where a climb ends and where it comes round.
use Rattle.std.proofs.Common.{◌≡◌, ◌↔◌, ◌+◌, ℕ, zero, suc, ◌≤◌, ◌<◌, Bool, true, false, not, IsTrue, List, [], ◌∷◌, length, Option, Some, None, option_and_then, refl, sym, ap, ◌∙◌, subst, arith, inl, inr, ◌⊎◌}
use Rattle.st_ids.specs.declared.names.NodeId.{NodeId}
use Rattle.st_ids.specs.Listing.{Has}
use Rattle.st_ids.specs.Order.{same_node}
use Rattle.st_ids.proofs.Orders.{same_node-true, same_node-itself}
use Rattle.st_marks.specs.declared.places.Spot.{Spot}
use Rattle.st_marks.specs.Agree.{LeadsUp}
use Rattle.st_marks.specs.Agree.LeadsUp.{one_up, further_up}
use Rattle.st_marks.specs.Document.{node_of, climb, ClimbsToAnEnd, Reaches}
use Rattle.st_normal.specs.inside.Ring.{HasRing, AreListed}
use Rattle.st_marks.proofs.Climb.{climb_more, climb_end, ends_above}
use Rattle.st_marks.proofs.NoRing.{without_node, shorter, others}

module _ (up : NodeId → Option NodeId) where
  pub one_step : (n p : NodeId) → up n ≡ Some p → Reaches up n p
  one_step n p e = (0, ap (option_and_then (climb up 0)) e)

  pub step_more : (n p q : NodeId) → Reaches up n p → up p ≡ Some q → Reaches up n q
  step_more n p q r e = (suc r.0, climb_more up (suc r.0) n p q r.1 e)

  pub step_before : (n p q : NodeId) → up n ≡ Some p → Reaches up p q → Reaches up n q
  step_before n p q e r = (suc r.0, ap (option_and_then (climb up (suc r.0))) e ∙ r.1)

  -- from a node that is above itself, one step up leads to one that is, too
  pub round : (n p : NodeId) → Reaches up n n → up n ≡ Some p → Reaches up p p
  round n p r e = (r.0, climb_more up r.0 p n p (ap (option_and_then (climb up r.0)) (sym e) ∙ r.1) e)

  -- and no climb from it ends
  pub never_ends : (j : ℕ) (n : NodeId) → Reaches up n n → climb up j n ≡ None → ⊥
  never_ends zero n r e = let bad : Some n ≡ None = e in cc
  never_ends (suc j) n r e = go (up n) refl (λ p q f. never_ends j p q f)
    where
      go : (o : Option NodeId) → up n ≡ o → ((p : NodeId) → Reaches up p p → climb up j p ≡ None → ⊥) → ⊥
      go None h rest = let bad : None ≡ Some n = ap (option_and_then (climb up r.0)) (sym h) ∙ r.1 in cc
      go (Some p) h rest = rest p (round n p r h) (ap (option_and_then (climb up j)) (sym h) ∙ e)

  pub ends_below : (k : ℕ) (n m : NodeId) → climb up k n ≡ Some m → ClimbsToAnEnd up m → ClimbsToAnEnd up n
  ends_below zero n m e h = let same : n ≡ m = cc in subst (ClimbsToAnEnd up) (sym same) h
  ends_below (suc k) n m e h = go (up n) refl (λ p f. ends_below k p m f h)
    where
      go : (o : Option NodeId) → up n ≡ o → ((p : NodeId) → climb up k p ≡ Some m → ClimbsToAnEnd up p) → ClimbsToAnEnd up n
      go None f rest = climb_end up n f
      go (Some p) f rest = ends_above up n p f (rest p (ap (option_and_then (climb up k)) (sym f) ∙ e))

  -- a climb that has ended stays so
  stays_ended : (j k : ℕ) (n : NodeId) → climb up j n ≡ None → j ≤ k → climb up k n ≡ None
  stays_ended zero k n e l = let bad : Some n ≡ None = e in cc
  stays_ended (suc j) zero n e l = absurd (omega (arith, l))
  stays_ended (suc j) (suc k) n e l = go (up n) refl (λ p f. stays_ended j k p f (omega (arith, l)))
    where
      go : (o : Option NodeId) → up n ≡ o → ((p : NodeId) → climb up j p ≡ None → climb up k p ≡ None) → option_and_then (climb up k) (up n) ≡ None
      go None f rest = ap (option_and_then (climb up k)) f
      go (Some p) f rest = ap (option_and_then (climb up k)) f ∙ rest p (ap (option_and_then (climb up j)) (sym f) ∙ e)

  -- a climb over nodes of a list ends within so many steps, or some node is above itself: each node with another above
  -- it is in the list, or leads to the node where the climb is
  within : (b : ℕ) (R : List NodeId) → length R < b → (n : NodeId) → ((q p : NodeId) → up q ≡ Some p → Has R q ⊎ Reaches up q n) → (climb up (suc (length R)) n ≡ None) ⊎ HasRing up
  within zero R l n all = absurd (omega (arith, l))
  within (suc b) R l n all = go (up n) refl (λ S s m h. within b S (omega (arith, l, s)) m h)
    where
      go : (o : Option NodeId) → up n ≡ o
          → ((S : List NodeId) → length S < length R → (m : NodeId) → ((q p : NodeId) → up q ≡ Some p → Has S q ⊎ Reaches up q m) → (climb up (suc (length S)) m ≡ None) ⊎ HasRing up)
          → (climb up (suc (length R)) n ≡ None) ⊎ HasRing up
      go None e rest = inl (ap (option_and_then (climb up (length R))) e)
      go (Some m) e rest = here (all n m e)
        where
          split : (q : NodeId) → Has R q → Has (without_node n R) q ⊎ Reaches up q m
          split q h = elim (same_node q n) as (λ b. same_node q n ≡ b → Has (without_node n R) q ⊎ Reaches up q m) [
            | true ↦ λ t. inr (one_step q m (ap up (same_node-true q n t) ∙ e))
            | false ↦ λ t. inl (others n q R h (λ s. let bad : ◌≡◌ {A = Bool} false true = sym t ∙ ap (λ x. same_node x n) s ∙ same_node-itself n in cc))
          ] refl

          left : (q p : NodeId) → up q ≡ Some p → Has (without_node n R) q ⊎ Reaches up q m
          left q p f = elim (all q p f) [ inl h ↦ split q h | inr r ↦ inr (step_more q n m r e) ]

          here : Has R n ⊎ Reaches up n n → (climb up (suc (length R)) n ≡ None) ⊎ HasRing up
          here (inl h) = let s = shorter n R h in elim (rest (without_node n R) s m left) [
            | inl f ↦ inl (ap (option_and_then (climb up (length R))) e ∙ stays_ended (suc (length (without_node n R))) (length R) m f (omega (arith, s)))
            | inr r ↦ inr r
          ]
          here (inr r) = inr (n, r)

  -- a climb that goes on for more steps than there are nodes tells of a ring
  pub too_long : (nodes : List NodeId) → AreListed up nodes → (n m : NodeId) → climb up (suc (length nodes)) n ≡ Some m → HasRing up
  too_long nodes all n m e = elim (within (suc (length nodes)) nodes (omega arith) n (λ q p f. inl (all q p f))) [
    | inl f ↦ absurd (let bad : None ≡ Some m = sym f ∙ e in cc)
    | inr r ↦ r
  ]

  -- where each climb from a listed node ends, there is no ring
  pub all_end : (nodes : List NodeId) → AreListed up nodes → ((n : NodeId) → Has nodes n → ClimbsToAnEnd up n) → HasRing up → ⊥
  all_end nodes all ends r = go (up r.0) refl
    where
      go : (o : Option NodeId) → up r.0 ≡ o → ⊥
      go None e = let bad : None ≡ Some r.0 = ap (option_and_then (climb up r.1.0)) (sym e) ∙ r.1.1 in cc
      go (Some p) e = let h = ends r.0 (all r.0 p e) in never_ends h.0 r.0 r.1 h.1

  -- a climb that has as many steps as there are nodes, with one more step to go
  pub goes_on : (nodes rest : List NodeId) → AreListed up nodes → rest ≡ [] → (k : ℕ) (n h m : NodeId) → k + length rest ≡ length nodes → climb up k n ≡ Some h → Some m ≡ up h → HasRing up
  goes_on nodes rest all over k n h m count at e =
      let same : k ≡ length nodes = omega (arith, ap length over, count) in
      too_long nodes all n m (subst (λ j. climb up (suc j) n ≡ Some m) same (climb_more up k n h m at (sym e)))

  -- where all nodes have been gone through
  pub all_gone : (nodes rest : List NodeId) → AreListed up nodes → rest ≡ [] → ((n : NodeId) → Has nodes n → Has rest n ⊎ ClimbsToAnEnd up n) → HasRing up → ⊥
  all_gone nodes rest all over gone r = all_end nodes all (λ n h. elim (gone n h) [ inl g ↦ absurd (subst (λ ns. Has ns n) over g) | inr e ↦ e ]) r

-- one node further
pub one_further : (k total : ℕ) (before after : List NodeId) (x : NodeId) → before ≡ x ∷ after → k + length before ≡ total → suc k + length after ≡ total
one_further k total before after x e count = omega (arith, ap length e, count)

-- Where places lead up as `up` tells, they lead up in a ring exactly where it does.
module _ (At : NodeId → Spot → Type 0) (up : NodeId → Option NodeId) (same : (n p : NodeId) → (up n ≡ Some p) ↔ ((s : Spot) × At n s × (node_of s ≡ Some p))) where
  pub leads_up-reaches : (n m : NodeId) → LeadsUp At n m → Reaches up n m
  leads_up-reaches n m (one_up s a e) = one_step up n m ((same n m).1 (s, a, e))
  leads_up-reaches n m (further_up {p = p} s a e r) = step_before up n p m ((same n p).1 (s, a, e)) (leads_up-reaches p m r)

  pub reaches-leads_up : (k : ℕ) (n m : NodeId) → climb up (suc k) n ≡ Some m → LeadsUp At n m
  reaches-leads_up zero n m e = go (up n) refl
    where
      go : (o : Option NodeId) → up n ≡ o → LeadsUp At n m
      go None f = let bad : None ≡ Some m = ap (option_and_then (climb up 0)) (sym f) ∙ e in cc
      go (Some p) f =
          let is_m : Some p ≡ Some m = ap (option_and_then (climb up 0)) (sym f) ∙ e in
          let s = (same n m).0 (f ∙ is_m) in
          one_up s.0 s.1 s.2
  reaches-leads_up (suc k) n m e = go (up n) refl (λ p h. reaches-leads_up k p m h)
    where
      go : (o : Option NodeId) → up n ≡ o → ((p : NodeId) → climb up (suc k) p ≡ Some m → LeadsUp At p m) → LeadsUp At n m
      go None f rest = let bad : None ≡ Some m = ap (option_and_then (climb up (suc k))) (sym f) ∙ e in cc
      go (Some p) f rest =
          let s = (same n p).0 f in
          further_up s.0 s.1 s.2 (rest p (ap (option_and_then (climb up (suc k))) (sym f) ∙ e))

  pub no_ring-leads_up : (HasRing up → ⊥) ↔ ((n : NodeId) → LeadsUp At n n → ⊥)
  no_ring-leads_up = (λ none n r. none (n, leads_up-reaches n n r), λ none r. none r.0 (reaches-leads_up r.1.0 r.0 r.0 r.1.1))

  -- so a test for rings tells whether places lead up without one
  pub no_ring-told : (b : Bool) → (IsTrue b ↔ HasRing up) → (IsTrue (not b) ↔ ((n : NodeId) → LeadsUp At n n → ⊥))
  no_ring-told true e = (λ f. let bad : ◌≡◌ {A = Bool} false true = f in cc, λ none. absurd (no_ring-leads_up.1 none (e.0 refl)))
  no_ring-told false e = (λ f. no_ring-leads_up.0 (λ r. let bad : ◌≡◌ {A = Bool} false true = e.1 r in cc), λ none. refl)
