-- A climb step by step, until it comes to a node, ends, or has taken as many steps as there are nodes above others.
use Rattle.std.proofs.Common.{◌≡◌, ◌≢◌, ℕ, zero, suc, ◌+◌, ◌≤◌, ◌<◌, List, length, Option, Some, None, sym, ap, ◌∙◌, arith, inl, inr, subst}
use Rattle.std.proofs.lemmas.Option.{same_Some}
use Rattle.st_ids.specs.Listing.{Has}
use Rattle.st_ids.specs.declared.names.NodeId.{NodeId}
use Rattle.st_marks.specs.Document.{Reaches, climb}
use Rattle.st_marks.proofs.Climb.{climb_more}
use Rattle.st_climb.proofs.ShortestClimbs.{below-suc, less_or_not, rest, starts, within}

-- so many steps lead from one node to another, and none of them came to a third
pub record HasClimbed (up : NodeId → Option NodeId) (from to : NodeId) (steps : ℕ) (here : NodeId) : Type 0 where
  pub at : climb up steps from ≡ Some here
  pub not_yet : (j : ℕ) → j < steps → climb up (suc j) from ≡ Some to → ⊥

module _ (up : NodeId → Option NodeId) (from to : NodeId) (steps : ℕ) (here : NodeId) (h : HasClimbed up from to steps here) where
  -- a climb that has ended didn't come there
  pub ended : up here ≡ None → Reaches up from to → ⊥
  ended none (k, e) = elim (less_or_not k steps) [ inl l ↦ h.not_yet k l e | inr l ↦ (let t = rest up steps (suc k) from here to (omega (arith, l)) h.at e in on k t.0 t.1 l t.2) ]
    where
      on : (k r : ℕ) → r + steps ≡ suc k → steps ≤ k → climb up r here ≡ Some to → ⊥
      on k zero q l c = omega (arith, q, l)
      on k (suc r) q l c = starts up r here to c none

  pub came : (next : NodeId) → up here ≡ Some next → next ≡ to → Reaches up from to
  came next e same = (steps, climb_more up steps from here next h.at e ∙ ap (λ x. Some x) same)

  pub goes_on : (next : NodeId) (after : ℕ) → after ≡ steps + 1 → up here ≡ Some next → next ≢ to → HasClimbed up from to after next
  goes_on next after count e other =
      let more : climb up (suc steps) from ≡ Some next = climb_more up steps from here next h.at e in
      let one : after ≡ suc steps = omega (arith, count) in
      subst (λ k. HasClimbed up from to k next) (sym one) (record {
        at = more;
        not_yet = λ j l c. elim (below-suc j steps l) [
          | inl q ↦ other (same_Some next to (sym more ∙ ap (λ k. climb up (suc k) from) (sym q) ∙ c))
          | inr q ↦ h.not_yet j q c
        ];
      })

  pub long : (R : List NodeId) → ((x q : NodeId) → up x ≡ Some q → Has R q) → length R ≤ steps → Reaches up from to → ⊥
  long R all enough r = let t = within up R all from to r in h.not_yet t.0 (omega (arith, t.1, enough)) t.2
