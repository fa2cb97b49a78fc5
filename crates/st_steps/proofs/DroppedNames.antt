-- A node that the first of two steps mentions and the step over both doesn't is mentioned by the second.
use Rattle.std.proofs.Common.{◌≡◌, ℕ, zero, suc, true, Option, Some, None, option_and_then, refl, sym, ap, ◌∙◌, subst, inl, inr, IsSome}
use Rattle.st_ids.specs.declared.names.NodeId.{NodeId}
use Rattle.st_marks.specs.declared.steps.Step.{Step}
use Rattle.st_marks.specs.Document.{Document, above, climb, node_of}
use Rattle.st_marks.specs.Extends.{IsExtendedBy}
use Rattle.st_marks.specs.Step.{IsChanged, IsMentionedByStep, IsStep}
use Rattle.st_marks.proofs.Climb.{above_known, same_spot}
use Rattle.st_marks.proofs.Later.{node_later}
use Rattle.st_mention_laws.proofs.Mentions.{changed_above}
use Rattle.st_trim.proofs.StepsInTurn.{step_closed}

module _ (D E F : Document) (T : Step) (x : IsExtendedBy D E) (y : IsExtendedBy E F) (t : IsStep E F T) (n : NodeId) (dropped : IsMentionedByStep D F n → ⊥) where
  -- whoever is on the way up to n in D is mentioned by the second, if the one below is
  on_the_way : (k : ℕ) (p : NodeId) → IsSome (D.nodes p) → t.mentioned p ≡ true → climb (above D) k p ≡ Some n → t.mentioned n ≡ true
  on_the_way zero p known e at = let same : p ≡ n = cc in subst (λ z. t.mentioned z ≡ true) same e
  on_the_way (suc k) p known e at = go (above D p) refl at (λ q there named up. on_the_way k q there named up)
    where
      next : (q : NodeId) → above D p ≡ Some q → t.mentioned q ≡ true
      next q up = elim (same_spot (D.place p) (E.place p)) [
        | inl same ↦ step_closed E F T t p q e (ap node_of (sym same) ∙ up)
        | inr apart ↦ elim (same_spot (D.place p) (F.place p)) [
          | inr gone ↦ absurd (dropped (p, (known, inl gone), suc k, at))
          | inl back ↦
              (t.which q).1 (q, changed_above E F y.before y.after p q (node_later D E x q (above_known D x.before p q up)) (λ z. apart (back ∙ sym z)) (ap node_of (sym back) ∙ up), zero, refl)
        ]
      ]

      go : (o : Option NodeId) → above D p ≡ o → option_and_then (climb (above D) k) o ≡ Some n
          → ((q : NodeId) → IsSome (D.nodes q) → t.mentioned q ≡ true → climb (above D) k q ≡ Some n → t.mentioned n ≡ true) → t.mentioned n ≡ true
      go None up at rest = cc
      go (Some q) up at rest = rest q (above_known D x.before p q up) (next q up) at

  -- who changed by the first changed back by the second
  changed_back : (r : NodeId) (k : ℕ) → climb (above D) k r ≡ Some n → IsChanged D E r → IsChanged E F r
  changed_back r k at (known, inl w) = (node_later D E x r known, inl (λ e. dropped (r, (known, inl (λ z. w (z ∙ sym e))), k, at)))
  changed_back r k at (known, inr (inl w)) = (node_later D E x r known, inr (inl (λ e. dropped (r, (known, inr (inl (λ z. w (z ∙ sym e)))), k, at))))
  changed_back r k at (known, inr (inr w)) = (node_later D E x r known, inr (inr (w.0, w.1, λ e. dropped (r, (known, inr (inr (w.0, w.1, λ z. w.2 (z ∙ sym e)))), k, at))))

  pub dropped_is_named : IsMentionedByStep D E n → t.mentioned n ≡ true
  dropped_is_named m =
      let back = changed_back m.0 m.2 m.3 m.1 in
      on_the_way m.2 m.0 m.1.0 ((t.which m.0).1 (m.0, back, zero, refl)) m.3
