-- Which nodes a step mentions can be told: those that differ, and those that so many steps up lead to as nodes stand above others.
use Rattle.std.proofs.Common.{◌≡◌, ◌≤◌, ℕ, zero, suc, Bool, true, false, ◌||◌, List, length, Option, Some, None, refl, sym, ap, subst, inl, inr, ◌⊎◌, arith, unwrap_or}
use Rattle.std.specs.List.{flat_map, list_any}
use Rattle.st_climb.specs.Upwards.{AreUpwards}
use Rattle.st_climb.proofs.ShortestClimbs.{is_some_node, some_node_is, within}
use Rattle.st_ids.specs.Listing.{Has}
use Rattle.st_ids.specs.Order.{same_node}
use Rattle.st_ids.specs.declared.names.NodeId.{NodeId}
use Rattle.st_kind.specs.Named.{Nodes}
use Rattle.st_marks.specs.declared.places.Spot.{Spot}
use Rattle.st_marks.specs.declared.steps.Step.{Step}
use Rattle.st_marks.specs.Document.{Document, climb, node_of}
use Rattle.st_marks.specs.Embedding.{is_among}
use Rattle.st_marks.specs.Extends.{IsExtendedBy}
use Rattle.st_marks.specs.Intent.{same_option}
use Rattle.st_marks.specs.Listings.{nodes_new, one_or_none}
use Rattle.st_marks.proofs.Members.{any-has, flat_map-has, has-any}
use Rattle.st_puts.specs.inside.First.{first_at}
use Rattle.st_puts.proofs.Firsts.{first-is}
use Rattle.st_trim.specs.Trimmed.{AreMentionedByStep, ListsStep}
use Rattle.st_trim.specs.inside.Told.{changes_told, stood_before}
use Rattle.st_trim.proofs.ListingItems.{among-has, has-among}
use Rattle.st_trim.proofs.PlacesTold.{upwards_mentioned}

module _ (up : NodeId → Option NodeId) where
  -- whether at most so many steps lead up from one to another
  leads : ℕ → NodeId → NodeId → Bool
  leads zero s n = same_option same_node (climb up zero s) (Some n)
  leads (suc k) s n = same_option same_node (climb up (suc k) s) (Some n) || leads k s n

  or-true : (a b : Bool) → (a || b) ≡ true → (a ≡ true) ⊎ (b ≡ true)
  or-true true b e = inl refl
  or-true false b e = inr e

  led : (k : ℕ) (s n : NodeId) → leads k s n ≡ true → (i : ℕ) × (climb up i s ≡ Some n)
  unfolding leads
  led zero s n e = (zero, is_some_node (climb up zero s) n e)
  led (suc k) s n e = elim (or-true (same_option same_node (climb up (suc k) s) (Some n)) (leads k s n) e) [
    | inl h ↦ (suc k, is_some_node (climb up (suc k) s) n h)
    | inr h ↦ led k s n h
  ]

  or-left : (a b : Bool) → a ≡ true → (a || b) ≡ true
  or-left a b e = ap (λ x. x || b) e

  or-right : (a b : Bool) → b ≡ true → (a || b) ≡ true
  or-right true b e = refl
  or-right false b e = e

  same-or-less : (i k : ℕ) → i ≤ suc k → (i ≡ suc k) ⊎ (i ≤ k)
  same-or-less zero k l = inr (omega arith)
  same-or-less (suc zero) zero l = inl refl
  same-or-less (suc (suc i)) zero l = absurd (omega (arith, l))
  same-or-less (suc i) (suc k) l = elim (same-or-less i k (omega (arith, l))) [ inl e ↦ inl (ap suc e) | inr h ↦ inr (omega (arith, h)) ]

  is-led : (k i : ℕ) (s n : NodeId) → i ≤ k → climb up i s ≡ Some n → leads k s n ≡ true
  unfolding leads
  is-led zero zero s n l e = some_node_is (climb up zero s) n e
  is-led zero (suc i) s n l e = absurd (omega (arith, l))
  is-led (suc k) i s n l e = elim (same-or-less i k l) [
    | inl q ↦ or-left (same_option same_node (climb up (suc k) s) (Some n)) (leads k s n) (some_node_is (climb up (suc k) s) n (subst (λ i. climb up i s ≡ Some n) q e))
    | inr h ↦ or-right (same_option same_node (climb up (suc k) s) (Some n)) (leads k s n) (is-led k i s n h e)
  ]

  module _ (begins : List NodeId) (uppers : List NodeId) (all : (x q : NodeId) → up x ≡ Some q → Has uppers q) where
    pub all_upwards : Nodes
    all_upwards n = list_any (λ s. leads (length uppers) s n) begins

    pub are_upwards : AreUpwards up (is_among begins) all_upwards
    unfolding all_upwards
    are_upwards n = (
      λ e. (let r = any-has (λ s. leads (length uppers) s n) begins e in
          let w = led (length uppers) r.0 n r.2 in
          (r.0, has-among begins r.0 r.1, w.0, w.1)),
      λ w. has-any (λ s. leads (length uppers) s n) begins w.0 (among-has begins w.0 w.1) (go w.0 w.2 w.3),
    )
      where
        go : (s : NodeId) (k : ℕ) → climb up k s ≡ Some n → leads (length uppers) s n ≡ true
        go s zero e = is-led (length uppers) zero s n (omega arith) e
        go s (suc k) e = let w = within up uppers all s n (k, e) in is-led (length uppers) (suc w.0) s n (omega (arith, w.1)) w.2

abbrev Pair : Type 0
Pair = NodeId × Spot

abbrev upper_of : Pair → List NodeId
upper_of p = one_or_none (node_of p.1)

module _ (D E : Document) (K : Nodes) (G : Step) (x : IsExtendedBy D E) (l : ListsStep D E K G) where
  at : NodeId → Option Spot
  at n = first_at (stood_before G) n

  abbrev up : NodeId → Option NodeId
  up n = node_of (unwrap_or (at n) Spot.Nowhere)

  uppers : List NodeId
  uppers = flat_map upper_of (stood_before G)

  all_uppers : (n q : NodeId) → up n ≡ Some q → Has uppers q
  unfolding at uppers
  all_uppers n q e = go (first_at (stood_before G) n) refl e
    where
      go : (o : Option Spot) → first_at (stood_before G) n ≡ o → node_of (unwrap_or o Spot.Nowhere) ≡ Some q → Has (flat_map upper_of (stood_before G)) q
      go None f h = cc
      go (Some p) f h = flat_map-has upper_of (stood_before G) (n, p) q (first-is (stood_before G) n p f) (subst (λ o. Has (one_or_none o) q) (sym h) (inl refl))

  pub some_mentioned : (k : Nodes) × AreMentionedByStep D E k
  unfolding at
  some_mentioned =
      let begins = changes_told (is_among (nodes_new G.new)) G in
      let k = all_upwards up begins uppers all_uppers in
      (k, upwards_mentioned D E K G x l at (λ n. refl) (is_among begins) k (λ n. refl) (are_upwards up begins uppers all_uppers))
