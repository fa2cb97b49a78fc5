-- After an intent whose change a step passes: the step from the document to the later one changes and mentions the same nodes.
use Rattle.std.proofs.Common.{◌≡◌, ◌≢◌, ◌↔◌, ℕ, suc, Bool, true, false, List, [], ◌∷◌, map, Option, Some, None, IsSome, is_some, refl, sym, ap, ◌∙◌, subst, inl, inr, ◌⊎◌}
use Rattle.std.specs.Option.{option_or}
use Rattle.st_ids.specs.Listing.{Has}
use Rattle.st_ids.specs.declared.names.FieldId.{FieldId}
use Rattle.st_ids.specs.declared.names.NodeId.{NodeId}
use Rattle.st_marks.specs.declared.changes.Change.{Change}
use Rattle.st_marks.specs.declared.intents.Intent.{Intent}
use Rattle.st_marks.specs.declared.intents.Owned.{Owned}
use Rattle.st_marks.specs.declared.steps.Step.{Step}
use Rattle.st_marks.specs.declared.verdicts.Verdict.{Verdict}
use Rattle.st_marks.specs.CarryOut.{with_names}
use Rattle.st_marks.specs.Document.{Document, IsSoundInForm, NodeType, above, climb, content, node_of, slot}
use Rattle.st_marks.specs.Embedding.{IsEmbedding}
use Rattle.st_marks.specs.Extends.{IsExtendedBy}
use Rattle.st_marks.specs.Intent.{Fits, new_type}
use Rattle.st_marks.specs.Step.{IsChanged, IsMentionedByStep, IsStep}
use Rattle.st_marks.specs.Verdict.{carried_document}
use Rattle.st_marks.proofs.Climb.{climb_more, unknown_nowhere}
use Rattle.st_read_laws.specs.Reading.{IsRead, IsStepRead, read_change, read_step}
use Rattle.st_reading.specs.Bridge.{is_void}
use Rattle.st_passing.specs.Whole.{Passes}
use Rattle.st_passing_laws.proofs.MentionedLeft.{both_read}
use Rattle.st_passing_laws.proofs.PlacesAcross.{alike, apart, carried, carried_is, comes, held_alike, held_apart, named}
use Rattle.st_passing_laws.proofs.RowsAcross.{content_back, content_on}
use Rattle.st_passing_laws.proofs.VerdictsLeft.{climb_alike}

-- ## Nodes and rows after the intent

pub rows_named : (b : Bool) (F : Document) (N : Intent) (n : NodeId) → (carried b F N).rows n ≡ (with_names F N).rows n
rows_named true F N n = refl
rows_named false F N n = refl

pub nodes_named : (b : Bool) (F : Document) (N : Intent) (n : NodeId) → (carried b F N).nodes n ≡ option_or (F.nodes n) (new_type N n)
nodes_named true F N n = refl
nodes_named false F N n = refl

-- of a node that a document doesn't have

none_is : {A : Type 0} {o : Option A} → o ≡ None → IsSome o → ⊥
none_is e h = let b : ◌≡◌ {A = Bool} false true = sym (ap is_some e) ∙ h in cc

no_cells : (F : Document) → IsSoundInForm F → (n : NodeId) → F.nodes n ≡ None → content F n ≡ []
no_cells F s n none = go (F.rows n) refl
  where
    go : (os : List Owned) → F.rows n ≡ os → content F n ≡ []
    go [] e = λ i. map (slot F) (e i)
    go (o ∷ os) e = absurd (none_is none (s.cells_known n o (subst (λ l. Has l o) (sym e) (inl refl))).0)

no_occupant : (F : Document) → IsSoundInForm F → (g : FieldId) → F.nodes g.node ≡ None → F.held g ≡ None
no_occupant F s g none = go (F.held g) refl
  where
    go : (o : Option NodeId) → F.held g ≡ o → F.held g ≡ None
    go None e = e
    go (Some k) e = absurd (none_is none (s.held_known k g e).1)

module _ (D E : Document) (N : Intent) (C : Change) (S : Step) (b : Bool) (x : IsExtendedBy D E) (f : Fits D N) (e : Fits E N) (change : IsEmbedding D N C) (step : IsStep D E S)
    (passes : Passes (read_change false C) (read_step false S)) where
  abbrev A : Document
  A = carried b D N

  abbrev B : Document
  B = carried b E N

  content_alike : (n : NodeId) → content D n ≡ content E n → content A n ≡ content B n
  content_alike n =
      content_on D E A B N step.mentioned change.mentioned x f e (alike D E N C S x f e change step passes b) (apart D E N C S x f e change step passes b) (named D E N C S x f e change step passes b) (comes N b D) n
      (rows_named b D N n) (rows_named b E N n)

  content_same : (n : NodeId) → content A n ≡ content B n → content D n ≡ content E n
  content_same n =
      content_back D E A B N step.mentioned change.mentioned x f e (alike D E N C S x f e change step passes b) (apart D E N C S x f e change step passes b) (named D E N C S x f e change step passes b) (comes N b D) n
      (step.grows n) (rows_named b D N n) (rows_named b E N n)

  -- ## Changed nodes

  abbrev Differs : Document → Document → NodeId → Type 0
  Differs F G n = (F.place n ≢ G.place n) ⊎ (content F n ≢ content G n) ⊎ ((g : FieldId) × (g.node ≡ n) × (F.held g ≢ G.held g))

  known_after : (n : NodeId) → IsSome (D.nodes n) → IsSome (A.nodes n)
  known_after n h = ap is_some (nodes_named b D N n) ∙ go (D.nodes n) h
    where
      go : (o : Option NodeType) → IsSome o → is_some (option_or o (new_type N n)) ≡ true
      go None h = let b : ◌≡◌ {A = Bool} false true = h in cc
      go (Some t) h = refl

  pub changed_on : (n : NodeId) → IsChanged D E n → IsChanged A B n
  changed_on n h = (known_after n h.0, go h.1)
    where
      go : Differs D E n → Differs A B n
      go (inl p) = let r = apart D E N C S x f e change step passes b n p in inl (λ q. p (sym r.0 ∙ q ∙ r.1))
      go (inr (inl p)) = inr (inl (λ q. p (content_same n q)))
      go (inr (inr p)) = let r = held_apart D E N C S x f e change step passes b p.0 p.2 in inr (inr (p.0, p.1, λ q. p.2 (sym r.0 ∙ q ∙ r.1)))

  differed : (n : NodeId) → Differs A B n → Differs D E n
  differed n (inl p) = inl (λ q. p (alike D E N C S x f e change step passes b n q))
  differed n (inr (inl p)) = inr (inl (λ q. p (content_alike n q)))
  differed n (inr (inr p)) = inr (inr (p.0, p.1, λ q. p.2 (held_alike D E N C S x f e change step passes b p.0 q)))

  -- a node that neither document has doesn't differ
  unknown_alike : (n : NodeId) → D.nodes n ≡ None → E.nodes n ≡ None → Differs D E n → ⊥
  unknown_alike n d g (inl p) = p (unknown_nowhere D x.before n d ∙ sym (unknown_nowhere E x.after n g))
  unknown_alike n d g (inr (inl p)) = p (no_cells D x.before n d ∙ sym (no_cells E x.after n g))
  unknown_alike n d g (inr (inr p)) = p.2 (no_occupant D x.before p.0 (ap D.nodes p.1 ∙ d) ∙ sym (no_occupant E x.after p.0 (ap E.nodes p.1 ∙ g)))

  pub changed_back : (n : NodeId) → IsChanged A B n → IsChanged D E n
  changed_back n h = (go (D.nodes n) refl (new_type N n) refl, differed n h.1)
    where
      go : (o : Option NodeType) → D.nodes n ≡ o → (t : Option NodeType) → new_type N n ≡ t → IsSome (D.nodes n)
      go (Some k) q t r = ap is_some q
      go None q (Some k) r = absurd (unknown_alike n q (e.fresh_nodes n (ap is_some r)) (differed n h.1))
      go None q None r = absurd (none_is (nodes_named b D N n ∙ (λ i. option_or (q i) (r i))) h.0)

  -- ## Mentioned nodes

  named_above : (n p : NodeId) → step.mentioned n ≡ true → above D n ≡ Some p → step.mentioned p ≡ true
  named_above n p h up = let m = (step.which n).0 h in (step.which p).1 (m.0, m.1, suc m.2, climb_more (above D) m.2 m.0 n p m.3 up)

  climbs : (k : ℕ) (n : NodeId) → step.mentioned n ≡ true → climb (above D) k n ≡ climb (above A) k n
  climbs = climb_alike (λ n. above D n) (λ n. above A n) (λ n. step.mentioned n ≡ true) (λ n m. ap node_of (sym (named D E N C S x f e change step passes b n m))) named_above

  pub mentioned_after : (n : NodeId) → (step.mentioned n ≡ true) ↔ IsMentionedByStep A B n
  mentioned_after n = (
    (λ h. let m = (step.which n).0 h in (m.0, changed_on m.0 m.1, m.2, sym (climbs m.2 m.0 ((step.which m.0).1 (m.0, m.1, 0, refl))) ∙ m.3)),
    (λ (m : IsMentionedByStep A B n). let c = changed_back m.0 m.1 in (step.which n).1 (m.0, c, m.2, climbs m.2 m.0 ((step.which m.0).1 (m.0, c, 0, refl)) ∙ m.3)),
  )

-- ## However the change and the step are given

pub mentioned_between : (D E : Document) (N : Intent) (C : Change) (S : Step) (v : Verdict) (n : NodeId) → IsExtendedBy D E → Fits D N → Fits E N → IsRead false D N C → IsStepRead false D E S → Passes C S
    → IsMentionedByStep D E n ↔ IsMentionedByStep (carried_document v D N) (carried_document v E N) n
mentioned_between D E N C S v n x f e c s p =
    let both = both_read D E N C S Passes c s p in
    let alone : N.schema ≡ None = sym c.1.schema ∙ both.change_schema in
    let after = mentioned_after D E N c.0 s.0 (is_void v) x f e c.1 s.1 both n in
    let made : IsMentionedByStep D E n ↔ IsMentionedByStep (carried (is_void v) D N) (carried (is_void v) E N) n = ((λ m. after.0 ((s.1.which n).1 m)), (λ m. (s.1.which n).0 (after.1 m))) in
    subst (λ A. IsMentionedByStep D E n ↔ IsMentionedByStep A (carried_document v E N) n) (sym (carried_is v D N alone))
    (subst (λ B. IsMentionedByStep D E n ↔ IsMentionedByStep (carried (is_void v) D N) B n) (sym (carried_is v E N alone)) made)
