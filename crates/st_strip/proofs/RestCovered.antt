-- What the rest of a step names: what the first part names, what is new at last, and what the whole step names.
use Rattle.std.proofs.Common.{◌≡◌, ◌≢◌, zero, Bool, true, false, ◌&&◌, ◌||◌, not, Option, Some, None, refl, sym, ap, ◌∙◌, inl, inr, ◌⊎◌, IsSome, is_some}
use Rattle.st_ids.specs.declared.names.FieldId.{FieldId}
use Rattle.st_ids.specs.declared.names.NodeId.{NodeId}
use Rattle.st_kind.specs.Named.{Nodes}
use Rattle.st_lemmas.proofs.Bools.{or-left, or-right, true-false}
use Rattle.st_marks.specs.declared.places.Spot.{Spot}
use Rattle.st_marks.specs.declared.steps.Step.{Step}
use Rattle.st_marks.specs.Back.{is_in}
use Rattle.st_marks.specs.Document.{Document, NodeType, content, node_of}
use Rattle.st_marks.specs.Extends.{IsExtendedBy}
use Rattle.st_marks.specs.Step.{IsChanged, IsStep}
use Rattle.st_marks.proofs.Climb.{above_known, placed_known, same_spot}
use Rattle.st_marks.proofs.Later.{node_later}
use Rattle.st_mention_laws.specs.Closed.{IsClosedIn}
use Rattle.st_mention_laws.proofs.Mentions.{changed_above}
use Rattle.st_trim.specs.Covers.{CoversStep}
use Rattle.st_trim.proofs.StepsInTurn.{step_closed}
use Rattle.st_strip.specs.Rest.{named_rest}

pub is_there : (D : Document) (n : NodeId) → IsSome (D.nodes n) → is_in D n ≡ true
is_there D n h = go (D.nodes n) h
  where
    go : (o : Option NodeType) → IsSome o → is_some o ≡ true
    go None h = cc
    go (Some t) h = refl

pub there_is : (D : Document) (n : NodeId) → is_in D n ≡ true → IsSome (D.nodes n)
there_is D n h = go (D.nodes n) h
  where
    go : (o : Option NodeType) → is_some o ≡ true → IsSome o
    go None h = cc
    go (Some t) h = refl

module _ (D E F : Document) (S W : Step) (x : IsExtendedBy D E) (y : IsExtendedBy E F) (s : IsStep D E S) (t : IsStep D F W) where
  abbrev named : Nodes
  named = named_rest D F s.mentioned t.mentioned

  pub by_first : (n : NodeId) → s.mentioned n ≡ true → named n ≡ true
  by_first n e = or-left (s.mentioned n || (is_in F n && not (is_in D n))) (t.mentioned n) (or-left (s.mentioned n) (is_in F n && not (is_in D n)) e)

  pub by_new : (n : NodeId) → IsSome (F.nodes n) → is_in D n ≡ false → named n ≡ true
  by_new n h e = or-left (s.mentioned n || (is_in F n && not (is_in D n))) (t.mentioned n) (or-right (s.mentioned n) (is_in F n && not (is_in D n)) (λ i. is_there F n h i && not (e i)))

  pub by_whole : (n : NodeId) → t.mentioned n ≡ true → named n ≡ true
  by_whole n e = or-right (s.mentioned n || (is_in F n && not (is_in D n))) (t.mentioned n) e

  -- with each of them the one above it between is one of them
  rest_closed : IsClosedIn E named
  rest_closed n p e up = go (is_in D p) refl
    where
      known : IsSome (E.nodes p)
      known = above_known E x.after n p up

      in_place : D.place n ≡ E.place n → (a : Bool) → s.mentioned n ≡ a → (b : Bool) → t.mentioned n ≡ b → (c : Bool) → is_in D n ≡ c → ((a || (is_in F n && not c)) || b) ≡ true → named p ≡ true
      in_place same true f b g c h q = by_first p (step_closed D E S s n p f (ap node_of same ∙ up))
      in_place same false f true g c h q = by_whole p (step_closed D F W t n p g (ap node_of same ∙ up))
      in_place same false f false g false h q =
          let stood : D.place n ≢ Spot.Nowhere = λ (k : D.place n ≡ Spot.Nowhere). let z : None ≡ Some p = sym (ap node_of (sym same ∙ k)) ∙ up in cc in
          absurd (true-false (is_there D n (placed_known D x.before n stood)) h)
      in_place same false f false g true h q = absurd (true-false q (none (is_in F n)))
        where
          none : (b : Bool) → ((b && false) || false) ≡ false
          none true = refl
          none false = refl

      go : (b : Bool) → is_in D p ≡ b → named p ≡ true
      go false h = by_new p (node_later E F y p known) h
      go true h = elim (same_spot (D.place n) (E.place n)) [
        | inr apart ↦ by_first p ((s.which p).1 (p, changed_above D E x.before x.after n p (there_is D p h) apart up, zero, refl))
        | inl same ↦ in_place same (s.mentioned n) refl (t.mentioned n) refl (is_in D n) refl e
      ]

  -- and what differs from between to last differs by the first part or by the whole step, or is new
  rest_changed : (n : NodeId) → IsChanged E F n → named n ≡ true
  rest_changed n (there, why) = go (is_in D n) refl (s.mentioned n) refl (t.mentioned n) refl
    where
      first : s.mentioned n ≡ false → IsChanged D E n → ⊥
      first e c = true-false ((s.which n).1 (n, c, zero, refl)) e

      whole : t.mentioned n ≡ false → IsChanged D F n → ⊥
      whole e c = true-false ((t.which n).1 (n, c, zero, refl)) e

      both : {A : Type 0} (a b c : A) → ((a ≢ b) → ⊥) → ((a ≢ c) → ⊥) → b ≢ c → ⊥
      both a b c h k apart = h (λ p. k (λ q. apart (sym p ∙ q)))

      none : IsSome (D.nodes n) → s.mentioned n ≡ false → t.mentioned n ≡ false → (E.place n ≢ F.place n) ⊎ (content E n ≢ content F n) ⊎ ((f : FieldId) × (f.node ≡ n) × (E.held f ≢ F.held f)) → ⊥
      none k e g (inl apart) = both (D.place n) (E.place n) (F.place n) (λ p. first e (k, inl p)) (λ p. whole g (k, inl p)) apart
      none k e g (inr (inl apart)) = both (content D n) (content E n) (content F n) (λ p. first e (k, inr (inl p))) (λ p. whole g (k, inr (inl p))) apart
      none k e g (inr (inr w)) = both (D.held w.0) (E.held w.0) (F.held w.0) (λ p. first e (k, inr (inr (w.0, w.1, p)))) (λ p. whole g (k, inr (inr (w.0, w.1, p)))) w.2

      go : (b : Bool) → is_in D n ≡ b → (a : Bool) → s.mentioned n ≡ a → (c : Bool) → t.mentioned n ≡ c → named n ≡ true
      go false h a e c g = by_new n (node_later E F y n there) h
      go true h true e c g = by_first n e
      go true h false e true g = by_whole n g
      go true h false e false g = absurd (none (there_is D n h) e g why)

  pub rest_covers : CoversStep E F named
  rest_covers = record { closed = rest_closed; changed = rest_changed }
