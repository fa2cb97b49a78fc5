-- A set that gains some nodes and all above them, one after the other.
use Rattle.std.proofs.Common.{◌≡◌, ◌↔◌, suc, Bool, true, false, List, [], ◌∷◌, Option, refl, sym, ◌∙◌, subst, inl, inr, ◌⊎◌}
use Rattle.std.specs.BTreeMap.{is_at}
use Rattle.std.specs.List.{list_any}
use Rattle.st_ids.specs.Listing.{Has}
use Rattle.st_ids.specs.Order.{node_cmp, same_node}
use Rattle.st_ids.proofs.Orders.{same_node-itself, same_node-true}
use Rattle.st_marks.proofs.Members.{any-has, has-any}
use Rattle.st_ids.specs.declared.names.NodeId.{NodeId}
use Rattle.st_marks.proofs.Climb.{climb_more}
use Rattle.st_climb.specs.Upwards.{AreUpwards, GainsUpwards, IsClosed, LeadsUp}

-- one of the nodes has this one above it, or is it
abbrev pub IsFrom : (NodeId → Option NodeId) → List NodeId → NodeId → Type 0
IsFrom up ks m = (s : NodeId) × Has ks s × LeadsUp up s m

-- the set has all nodes above its own; with what is left it comes to all
pub record Gathering (up : NodeId → Option NodeId) (keys left : List NodeId) (has : NodeId → Bool) : Type 0 where
  pub closed : IsClosed up has
  pub so_far : (m : NodeId) → ((has m ≡ true) ⊎ IsFrom up left m) ↔ IsFrom up keys m

module _ (up : NodeId → Option NodeId) (keys : List NodeId) where
  pub gather_begun : (has : NodeId → Bool) → ((n : NodeId) → has n ≡ false) → Gathering up keys keys has
  gather_begun has none = record {
    closed = λ n m h u. absurd (bad n h);
    so_far = λ m. (
      λ s. elim s [
        | inl h ↦ absurd (bad m h)
        | inr r ↦ r
      ],
      λ r. inr r,
    );
  }
    where
      bad : (n : NodeId) → has n ≡ true → ⊥
      bad n h = let q : ◌≡◌ {A = Bool} false true = sym (none n) ∙ h in cc

  pub gathered : (items left : List NodeId) (k : NodeId) (old new : NodeId → Bool) → items ≡ k ∷ left → GainsUpwards up old k new → Gathering up keys items old → Gathering up keys left new
  gathered items left k old new opened gain w = record {
    closed = λ n m h u. (gain m).1 (elim ((gain n).0 h) [
      | inl o ↦ inl (w.closed n m o u)
      | inr l ↦ inr (suc l.0, climb_more up l.0 k n m l.1 u)
    ]);
    so_far = λ m. (
      λ s. elim s [
        | inl h ↦ elim ((gain m).0 h) [
          | inl o ↦ (w.so_far m).0 (inl o)
          | inr l ↦ (w.so_far m).0 (inr (k, subst (λ l. Has l k) (sym opened) (inl refl), l))
        ]
        | inr r ↦ (w.so_far m).0 (inr (r.0, subst (λ l. Has l r.0) (sym opened) (inr r.1), r.2))
      ],
      λ r. elim ((w.so_far m).1 r) [
        | inl o ↦ inl ((gain m).1 (inl o))
        | inr q ↦ elim (subst (λ l. Has l q.0) opened q.1) [
          | inl e ↦ inl ((gain m).1 (inr (subst (λ s. LeadsUp up s m) (sym e) q.2)))
          | inr h ↦ inr (q.0, h, q.2)
        ]
      ],
    );
  }

  pub gathered_all : (left : List NodeId) (begins has : NodeId → Bool) → left ≡ [] → ((s : NodeId) → (begins s ≡ true) ↔ Has keys s) → Gathering up keys left has → AreUpwards up begins has
  gathered_all left begins has over listed w m = (
    λ h. (let r = (w.so_far m).0 (inl h) in (r.0, (listed r.0).1 r.1, r.2.0, r.2.1)),
    λ r. elim ((w.so_far m).1 (r.0, (listed r.0).0 r.1, (r.2, r.3))) [
      | inl h ↦ h
      | inr q ↦ absurd (subst (λ l. Has l q.0) over q.1)
    ],
  )

-- whether a name is among the names of a set
pub set_has : (keys : List NodeId) (s : NodeId) → (list_any (is_at (node_cmp s)) keys ≡ true) ↔ Has keys s
unfolding same_node
set_has keys s = (
  λ e. (let r = any-has (is_at (node_cmp s)) keys e in subst (Has keys) (sym (same_node-true s r.0 r.2)) r.1),
  λ h. has-any (is_at (node_cmp s)) keys s h (same_node-itself s),
)
