-- Whom the second of two steps mentions, and the first document has, the first mentions, or both as one do.
use Rattle.std.proofs.Common.{◌≡◌, ◌≢◌, ◌⊎◌, ℕ, zero, suc, Bool, true, false, Option, Some, None, IsSome, option_and_then, refl, sym, ap, ◌∙◌, subst, inl, inr}
use Rattle.st_ids.specs.Listing.{Has}
use Rattle.st_ids.specs.declared.names.FieldId.{FieldId}
use Rattle.st_ids.specs.declared.names.NodeId.{NodeId}
use Rattle.st_lemmas.proofs.Bools.{true-false}
use Rattle.st_lemmas.proofs.Options.{one_some}
use Rattle.st_marks.specs.declared.places.Spot.{Spot}
use Rattle.st_marks.specs.declared.steps.Step.{Step}
use Rattle.st_marks.specs.Document.{Document, NodeType, above, climb, content, node_of}
use Rattle.st_marks.specs.Extends.{IsExtendedBy}
use Rattle.st_marks.specs.Step.{IsChanged, IsMentionedByStep, IsStep}
use Rattle.st_marks.proofs.Climb.{same_spot, shown, stands, unknown_nowhere}
use Rattle.st_puts.proofs.StepPlaces.{named-up}

none-some : {n : NodeId} → ◌≡◌ {A = Option NodeId} None (Some n) → ⊥
none-some e = cc

-- where a node or what it has differs in two documents
abbrev Differs : Document → Document → NodeId → Type 0
Differs A B n = (A.place n ≢ B.place n) ⊎ (content A n ≢ content B n) ⊎ ((f : FieldId) × (f.node ≡ n) × (A.held f ≢ B.held f))

differs-once : (D E F : Document) (n : NodeId) → Differs E F n → (Differs D E n → ⊥) → (Differs D F n → ⊥) → ⊥
differs-once D E F n (inl h) one both = one (inl (λ e. both (inl (λ g. h (sym e ∙ g)))))
differs-once D E F n (inr (inl h)) one both = one (inr (inl (λ e. both (inr (inl (λ g. h (sym e ∙ g)))))))
differs-once D E F n (inr (inr (f, q, h))) one both = one (inr (inr (f, q, λ e. both (inr (inr (f, q, λ g. h (sym e ∙ g)))))))

module _ (D E F : Document) (a b u : Step) (x : IsExtendedBy D E) (y : IsExtendedBy E F) (z : IsExtendedBy D F) (s : IsStep D E a) (t : IsStep E F b) (w : IsStep D F u) where
  -- it is new, or one of the two mentions it
  abbrev pub Touched : NodeId → Type 0
  Touched n = (D.nodes n ≡ None) ⊎ (s.mentioned n ≡ true) ⊎ (w.mentioned n ≡ true)

  touch : (n : NodeId) → (IsSome (D.nodes n) → (IsMentionedByStep D E n → ⊥) → (IsMentionedByStep D F n → ⊥) → ⊥) → Touched n
  touch n bad = go (D.nodes n) refl (s.mentioned n) refl (w.mentioned n) refl
    where
      go : (o : Option NodeType) → D.nodes n ≡ o → (p : Bool) → s.mentioned n ≡ p → (q : Bool) → w.mentioned n ≡ q → Touched n
      go None e p f q g = inl e
      go (Some k) e true f q g = inr (inl f)
      go (Some k) e false f true g = inr (inr g)
      go (Some k) e false f false g = absurd (bad (subst IsSome (sym e) refl) (λ m. true-false ((s.which n).1 m) f) (λ m. true-false ((w.which n).1 m) g))

  changed-touched : (n : NodeId) → IsChanged E F n → Touched n
  changed-touched n c = touch n (λ known one both. differs-once D E F n c.1 (λ h. one (n, (known, h), zero, refl)) (λ h. both (n, (known, h), zero, refl)))

  -- a node into which another comes changes
  comes : (n p : NodeId) → D.place n ≢ E.place n → above E n ≡ Some p → Touched p
  comes n p apart up = touch p (λ known one both. at (E.place n) refl up (λ h. one (p, (known, h), zero, refl)))
    where
      at : (q : Spot) → E.place n ≡ q → node_of q ≡ Some p → (Differs D E p → ⊥) → ⊥
      at Spot.Nowhere e f one = none-some f
      at (Spot.Row r c) e f one =
          let row : r ≡ p = one_some r p f in
          let there : Has (content E p) (record { cell = c; node = n; full = true }) = subst (λ k. Has (content E k) (record { cell = c; node = n; full = true })) row (shown E x.after n r c e) in
          one (inr (inl (λ same. apart (stands D x.before n p c (subst (λ l. Has l (record { cell = c; node = n; full = true })) (sym same) there) ∙ ap (λ k. Spot.Row k c) (sym row) ∙ sym e))))
      at (Spot.Register g) e f one = one (inr (inr (g, one_some g.node p f, λ same. apart ((x.before.one_held n g).0 (same ∙ (x.after.one_held n g).1 e) ∙ sym e))))

  up-touched : (n p : NodeId) → Touched n → above E n ≡ Some p → Touched p
  up-touched n p h up = elim (same_spot (D.place n) (E.place n)) [
    | inr d ↦ comes n p d up
    | inl e ↦ go h (ap node_of e ∙ up)
  ]
    where
      go : Touched n → above D n ≡ Some p → Touched p
      go (inl none) q = absurd (none-some (ap node_of (sym (unknown_nowhere D x.before n none)) ∙ q))
      go (inr (inl m)) q = inr (inl (named-up D E a x s n p m q))
      go (inr (inr m)) q = inr (inr (named-up D F u z w n p m q))

  climb-touched : (k : ℕ) (r n : NodeId) → Touched r → climb (above E) k r ≡ Some n → Touched n
  climb-touched zero r n h e = subst Touched (one_some r n e) h
  climb-touched (suc k) r n h e = go (above E r) refl e (λ p q i. climb-touched k p n q i)
    where
      go : (o : Option NodeId) → above E r ≡ o → option_and_then (climb (above E) k) o ≡ Some n → ((p : NodeId) → Touched p → climb (above E) k p ≡ Some n → Touched n) → Touched n
      go None f i rest = absurd (none-some i)
      go (Some p) f i rest = rest p (up-touched r p h f) i

  pub mentioned_touched : (n : NodeId) → t.mentioned n ≡ true → Touched n
  mentioned_touched n h = let m = (t.which n).0 h in climb-touched m.2 m.0 n (changed-touched m.0 m.1) m.3
