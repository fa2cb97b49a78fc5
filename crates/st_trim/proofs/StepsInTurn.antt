-- What two steps in turn name together: what the first names, and what the second names and was there before.
use Rattle.std.proofs.Common.{◌≡◌, ◌≢◌, zero, suc, Bool, true, false, ◌&&◌, ◌||◌, Option, Some, None, refl, sym, ap, ◌∙◌, inl, inr, ◌⊎◌, IsSome, is_some}
use Rattle.st_ids.specs.declared.names.FieldId.{FieldId}
use Rattle.st_ids.specs.declared.names.NodeId.{NodeId}
use Rattle.st_kind.specs.Named.{Nodes, either}
use Rattle.st_marks.specs.declared.steps.Step.{Step}
use Rattle.st_marks.specs.Back.{is_in}
use Rattle.st_marks.specs.Document.{Document, NodeType, above, content, node_of}
use Rattle.st_marks.specs.Extends.{IsExtendedBy}
use Rattle.st_marks.specs.Step.{IsChanged, IsStep}
use Rattle.st_marks.proofs.Climb.{above_known, climb_more, same_spot}
use Rattle.st_marks.proofs.Later.{node_later}
use Rattle.st_mention_laws.specs.Closed.{IsClosedIn}
use Rattle.st_trim.specs.Covers.{CoversStep}

-- what a step names is closed above
pub step_closed : (D E : Document) (S : Step) (s : IsStep D E S) → IsClosedIn D s.mentioned
step_closed D E S s n p e up = let m = (s.which n).0 e in (s.which p).1 (m.0, m.1, suc m.2, climb_more (above D) m.2 m.0 n p m.3 up)

module _ (D E F : Document) (S T : Step) (x : IsExtendedBy D E) (y : IsExtendedBy E F) (s : IsStep D E S) (t : IsStep E F T) where
  abbrev pub named_in_turn : Nodes
  named_in_turn = either s.mentioned (λ n. t.mentioned n && is_in D n)

  there : (n : NodeId) → IsSome (D.nodes n) → is_in D n ≡ true
  there n h = go (D.nodes n) h
    where
      go : (o : Option NodeType) → IsSome o → is_some o ≡ true
      go None h = cc
      go (Some k) h = refl

  by_first : (n : NodeId) → s.mentioned n ≡ true → named_in_turn n ≡ true
  by_first n e = ap (λ b. b || (t.mentioned n && is_in D n)) e

  by_then : (n : NodeId) → t.mentioned n ≡ true → IsSome (D.nodes n) → named_in_turn n ≡ true
  by_then n e h = or_second (s.mentioned n) (λ i. e i && there n h i)
    where
      or_second : (a : Bool) {b : Bool} → b ≡ true → (a || b) ≡ true
      or_second true e = refl
      or_second false e = e

  unnamed : (b : Bool) → b ≡ false → b ≡ true → ⊥
  unnamed b e f = let q : ◌≡◌ {A = Bool} false true = sym e ∙ f in cc

  -- whom the first doesn't name stands where it stood
  unmoved : (n : NodeId) → IsSome (D.nodes n) → s.mentioned n ≡ false → D.place n ≡ E.place n
  unmoved n known e = elim (same_spot (D.place n) (E.place n)) [
    | inl h ↦ h
    | inr h ↦ absurd (unnamed (s.mentioned n) e ((s.which n).1 (n, (known, inl h), zero, refl)))
  ]

  in_turn_closed : IsClosedIn D named_in_turn
  in_turn_closed n p e up = go (s.mentioned n) refl (t.mentioned n) refl (is_in D n) refl e
    where
      known : (o : Option NodeType) → is_some o ≡ true → IsSome o
      known None h = cc
      known (Some k) h = refl

      go : (a : Bool) → s.mentioned n ≡ a → (b : Bool) → t.mentioned n ≡ b → (c : Bool) → is_in D n ≡ c → (a || (b && c)) ≡ true → named_in_turn p ≡ true
      go true f b g c h q = by_first p (step_closed D E S s n p f up)
      go false f true g true h q = by_then p (step_closed E F T t n p g (ap node_of (sym (unmoved n (known (D.nodes n) h) f)) ∙ up)) (above_known D x.before n p up)
      go false f true g false h q = cc
      go false f false g c h q = cc

  -- what differs at last differed by the first or by the second
  in_turn_changed : (n : NodeId) → IsChanged D F n → named_in_turn n ≡ true
  in_turn_changed n (known, why) = go (s.mentioned n) refl (t.mentioned n) refl
    where
      first : s.mentioned n ≡ false → IsChanged D E n → ⊥
      first e c = unnamed (s.mentioned n) e ((s.which n).1 (n, c, zero, refl))

      then : t.mentioned n ≡ false → IsChanged E F n → ⊥
      then e c = unnamed (t.mentioned n) e ((t.which n).1 (n, c, zero, refl))

      both : {A : Type 0} (a b c : A) → ((a ≢ b) → ⊥) → ((b ≢ c) → ⊥) → a ≢ c → ⊥
      both a b c h k apart = h (λ p. k (λ q. apart (p ∙ q)))

      none : s.mentioned n ≡ false → t.mentioned n ≡ false → (D.place n ≢ F.place n) ⊎ (content D n ≢ content F n) ⊎ ((f : FieldId) × (f.node ≡ n) × (D.held f ≢ F.held f)) → ⊥
      none e g (inl apart) = both (D.place n) (E.place n) (F.place n) (λ p. first e (known, inl p)) (λ p. then g (node_later D E x n known, inl p)) apart
      none e g (inr (inl apart)) = both (content D n) (content E n) (content F n) (λ p. first e (known, inr (inl p))) (λ p. then g (node_later D E x n known, inr (inl p))) apart
      none e g (inr (inr w)) = both (D.held w.0) (E.held w.0) (F.held w.0) (λ p. first e (known, inr (inr (w.0, w.1, p)))) (λ p. then g (node_later D E x n known, inr (inr (w.0, w.1, p)))) w.2

      go : (a : Bool) → s.mentioned n ≡ a → (b : Bool) → t.mentioned n ≡ b → named_in_turn n ≡ true
      go true e b g = by_first n e
      go false e true g = by_then n g known
      go false e false g = absurd (none e g why)

  pub in_turn_covers : CoversStep D F named_in_turn
  in_turn_covers = record { closed = in_turn_closed; changed = in_turn_changed }
