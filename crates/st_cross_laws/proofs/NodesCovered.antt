-- What a step after a change names has all that differs between the two documents after the change, and all above it.
use Rattle.std.proofs.Common.{◌≡◌, ◌≢◌, ℕ, zero, Bool, true, false, ◌||◌, ◌&&◌, List, Option, Some, None, cond, refl, sym, ap, ◌∙◌, subst, inl, inr, ◌⊎◌, IsSome, is_some}
use Rattle.std.specs.Option.{option_or, option_map_or}
use Rattle.st_ids.specs.declared.names.FieldId.{FieldId}
use Rattle.st_ids.specs.declared.names.NodeId.{NodeId}
use Rattle.st_kind.specs.Named.{Nodes, either}
use Rattle.st_lemmas.proofs.Bools.{or-cases, or-left, or-right, refuted-false, true-false}
use Rattle.st_lemmas.proofs.Options.{None-IsSome}
use Rattle.st_marks.specs.declared.changes.Change.{Change}
use Rattle.st_marks.specs.declared.intents.Intent.{Intent}
use Rattle.st_marks.specs.declared.intents.To.{To}
use Rattle.st_marks.specs.declared.places.Spot.{Spot}
use Rattle.st_marks.specs.declared.steps.Step.{Step}
use Rattle.st_marks.specs.declared.verdicts.Verdict.{Verdict}
use Rattle.st_marks.specs.CarryOut.{is_put_in_new, place_after, spot_of, void, void_data, with_names}
use Rattle.st_marks.specs.Document.{Document, NodeType, IsSoundInForm, above, content, node_of}
use Rattle.st_marks.specs.Embedding.{IsEmbedding, is_among}
use Rattle.st_marks.specs.Extends.{IsExtendedBy}
use Rattle.st_marks.specs.Intent.{Fits, is_new, new_type, put_of}
use Rattle.st_marks.specs.Step.{IsChanged, IsMentionedByStep, IsStep}
use Rattle.st_marks.specs.Verdict.{carried_document}
use Rattle.st_marks.proofs.Climb.{above_known, same_spot, unknown_nowhere}
use Rattle.st_marks.proofs.Later.{node_later}
use Rattle.st_mention_laws.specs.Closed.{IsClosedIn}
use Rattle.st_mention_laws.proofs.Mentions.{IsCovered, covers, named_above}
use Rattle.st_reading.specs.Bridge.{is_void}
use Rattle.st_register.proofs.Documents.{void_is as register_void}
use Rattle.st_rows.proofs.DocumentsAfter.{void_is as row_void}
use Rattle.st_rows.specs.Sequence.{ListsNew, row_carried, row_part_of}
use Rattle.st_trim.specs.Covers.{CoversStep}
use Rattle.st_trim.specs.Evicted.{in_cleared, is_cleared_spot}
use Rattle.st_trim.proofs.Effects.{effect_covers}
use Rattle.st_trim.proofs.StepsInTurn.{step_closed}
use Rattle.st_trim.proofs.TrimmedSteps.{closed_climb}
use Rattle.st_effect.proofs.VoidIntents.{void_covers, void_nodes, void_place}
use Rattle.st_cross_laws.specs.Named.{named_across}

-- ## The document after an intent

pub carried_covers : (D : Document) (N : Intent) (C : Change) (w : Verdict) → IsSoundInForm D → Fits D N → (emb : IsEmbedding D N C) → CoversStep D (carried_document w D N) (either emb.mentioned (in_cleared D N))
carried_covers D N C Verdict.Sound x f emb = effect_covers D N C x f emb
carried_covers D N C (Verdict.Need n) x f emb = void_covers D N C x f emb
carried_covers D N C (Verdict.Cycle n) x f emb = void_covers D N C x f emb
carried_covers D N C (Verdict.Schema u) x f emb = void_covers D N C x f emb

pub carried_void : (D : Document) (N : Intent) (w : Verdict) → is_void w ≡ true → carried_document w D N ≡ void D N
carried_void D N Verdict.Sound e = cc
carried_void D N (Verdict.Need n) e = refl
carried_void D N (Verdict.Cycle n) e = refl
carried_void D N (Verdict.Schema u) e = refl

pub carried_nodes : (D : Document) (N : Intent) (w : Verdict) → Fits D N → (n : NodeId) → (carried_document w D N).nodes n ≡ option_or (D.nodes n) (new_type N n)
carried_nodes D N Verdict.Sound f n = refl
carried_nodes D N (Verdict.Need k) f n = void_nodes D N f n
carried_nodes D N (Verdict.Cycle k) f n = void_nodes D N f n
carried_nodes D N (Verdict.Schema u) f n = void_nodes D N f n

old_there : (a b : Option NodeType) → IsSome (option_or a b) → is_some b ≡ false → IsSome a
old_there None None h e = cc
old_there None (Some t) h e = cc
old_there (Some t) b h e = refl

-- a node of it that isn't new was there
pub carried_known : (D : Document) (N : Intent) (w : Verdict) → Fits D N → (n : NodeId) → IsSome ((carried_document w D N).nodes n) → is_new N n ≡ false → IsSome (D.nodes n)
carried_known D N w f n h e = old_there (D.nodes n) (new_type N n) (subst (λ o. IsSome o) (carried_nodes D N w f n) h) e

-- a new node that a void intent places is in a new node
void_above : (D : Document) (N : Intent) (n p : NodeId) → is_new N n ≡ true → D.place n ≢ (void D N).place n → above (void D N) n ≡ Some p → is_new N p ≡ true
void_above D N n p e apart up = go N.schema refl
  where
    spot : (s : Spot) (b : Bool) → option_map_or (is_new N) (node_of s) false ≡ b → node_of s ≡ Some p → b ≡ true → is_new N p ≡ true
    spot s b q h k = ap (λ o. option_map_or (is_new N) o false) (sym h) ∙ q ∙ k

    by_put : (g : Option To) (b : Bool) → option_map_or (λ to. option_map_or (is_new N) (node_of (spot_of (with_names D N).row_of to)) false) g false ≡ b → b ≡ true
        → node_of (place_after (with_names D N).row_of N g (D.place n)) ≡ Some p → is_new N p ≡ true
    by_put None b q k h = let bad : ◌≡◌ {A = Bool} false true = q ∙ k in cc
    by_put (Some to) b q k h = spot (spot_of (with_names D N).row_of to) b q h k

    by_test : (b : Bool) → is_put_in_new D N n ≡ b → D.place n ≢ cond b (place_after (with_names D N).row_of N (put_of N n) (D.place n)) (D.place n)
        → node_of (cond b (place_after (with_names D N).row_of N (put_of N n) (D.place n)) (D.place n)) ≡ Some p → is_new N p ≡ true
    by_test true q h k = by_put (put_of N n) true q refl k
    by_test false q h k = absurd (h refl)

    placed : (void_data D N).place n ≡ cond (is_put_in_new D N n) (place_after (with_names D N).row_of N (put_of N n) (D.place n)) (D.place n)
    placed = ap (λ b. cond (b && is_put_in_new D N n) (place_after (with_names D N).row_of N (put_of N n) (D.place n)) (D.place n)) e

    go : (q : Option (List ℕ)) → N.schema ≡ q → is_new N p ≡ true
    go None q =
        let same : void D N ≡ void_data D N = ap (λ o. option_map_or (λ _. D) o (void_data D N)) q in
        let at : (void D N).place n ≡ cond (is_put_in_new D N n) (place_after (with_names D N).row_of N (put_of N n) (D.place n)) (D.place n) = ap (λ (F : Document). F.place n) same ∙ placed in
        by_test (is_put_in_new D N n) refl (λ w. apart (w ∙ sym at)) (ap node_of (sym at) ∙ up)
    go (Some t) q = absurd (apart (ap (λ (F : Document). F.place n) (sym (ap (λ o. option_map_or (λ _. D) o (void_data D N)) q))))

-- ## What is named

module _ (D E : Document) (N : Intent) (C X : Change) (S : Step) (new : List NodeId) (v u : Verdict) (x : IsExtendedBy D E) (f : Fits D N) (g : Fits E N)
    (first : IsExtendedBy D (carried_document v D N)) (change : IsEmbedding D N C) (later : IsEmbedding E N X) (step : IsStep D E S) (listed : ListsNew N new) where
  abbrev A : Document
  A = carried_document v D N

  abbrev B : Document
  B = carried_document u E N

  -- an old node that neither names differs at none of the three steps
  module _ (n : NodeId) (known : IsSome (D.nodes n)) (unstepped : step.mentioned n ≡ false) where
    unchanged : IsChanged D E n → ⊥
    unchanged q = true-false ((step.which n).1 (n, q, zero, refl)) unstepped

    same_place : D.place n ≡ E.place n
    same_place = elim (same_spot (D.place n) (E.place n)) [ inl h ↦ h | inr h ↦ absurd (unchanged (known, inl h)) ]

    module _ (unsaid : change.mentioned n ≡ false) (stays : in_cleared D N n ≡ false) where
      unsaid_later : later.mentioned n ≡ false
      unsaid_later = refuted-false (later.mentioned n) (λ h. none (covers D E N x f g n ((later.which n).0 h)))
        where
          none : IsCovered D E N n → ⊥
          none (inl q) = true-false ((change.which n).1 q) unsaid
          none (inr (inl q)) = true-false ((step.which n).1 q) unstepped
          none (inr (inr q)) = None-IsSome (D.nodes n) q known

      by_change : IsChanged D A n → ⊥
      by_change q = true-false ((carried_covers D N C v x.before f change).changed n q) (λ i. unsaid i || stays i)

      by_later : IsChanged E B n → ⊥
      by_later q = true-false ((carried_covers E N X u x.after g later).changed n q) (λ i. unsaid_later i || (ap (is_cleared_spot N) (sym same_place) ∙ stays) i)

      through : {T : Type 0} (a d e b : T) → (d ≢ a → ⊥) → (d ≢ e → ⊥) → (e ≢ b → ⊥) → a ≢ b → ⊥
      through a d e b h k m apart = h (λ p. k (λ q. m (λ r. apart (sym p ∙ q ∙ r))))

      left : IsChanged A B n → ⊥
      left (there, inl apart) = through (A.place n) (D.place n) (E.place n) (B.place n) (λ q. by_change (known, inl q)) (λ q. unchanged (known, inl q)) (λ q. by_later (node_later D E x n known, inl q)) apart
      left (there, inr (inl apart)) = through (content A n) (content D n) (content E n) (content B n) (λ q. by_change (known, inr (inl q))) (λ q. unchanged (known, inr (inl q))) (λ q. by_later (node_later D E x n known, inr (inl q))) apart
      left (there, inr (inr w)) = through (A.held w.0) (D.held w.0) (E.held w.0) (B.held w.0) (λ q. by_change (known, inr (inr (w.0, w.1, q)))) (λ q. unchanged (known, inr (inr (w.0, w.1, q)))) (λ q. by_later (node_later D E x n known, inr (inr (w.0, w.1, q)))) w.2

  abbrev m : Nodes
  m = step.mentioned

  abbrev c : Nodes
  c = change.mentioned

  abbrev made : Nodes
  made = is_among new

  is_made : (n : NodeId) → is_new N n ≡ true → made n ≡ true
  is_made n e = listed.each n ∙ e

  -- a node that is above another after the change alone
  apart_above : (n p : NodeId) → above A n ≡ Some p → (IsSome (D.nodes n) → D.place n ≢ A.place n) → (either c (in_cleared D N) p ≡ true) ⊎ (is_new N p ≡ true)
  apart_above n p up moved = elim (named_above D A first n p up (told (D.nodes n) refl)) [
    | inl q ↦ inl (let k = carried_covers D N C v x.before f change in closed_climb D (either c (in_cleared D N)) k.closed q.2 q.0 p (k.changed q.0 q.1) q.3)
    | inr q ↦ inr (refuted-true (is_new N p) (λ e. None-IsSome (D.nodes p) q (carried_known D N v f p (above_known A first.after n p up) e)))
  ]
    where
      refuted-true : (b : Bool) → (b ≡ false → ⊥) → b ≡ true
      refuted-true true h = refl
      refuted-true false h = absurd (h refl)

      told : (o : Option NodeType) → D.nodes n ≡ o → IsMentionedByStep D A n ⊎ (D.nodes n ≡ None)
      told None q = inr q
      told (Some t) q = let known : IsSome (D.nodes n) = subst (λ o. IsSome o) (sym q) refl in inl (n, (known, inl (moved known)), zero, refl)

  -- ## Where the change is carried out whole before the step or after it

  abbrev K : Nodes
  K = either m (either (either c (in_cleared D N)) made)

  by_change_named : (n : NodeId) → either c (in_cleared D N) n ≡ true → K n ≡ true
  by_change_named n e = or-right (m n) (either (either c (in_cleared D N)) made n) (or-left (either c (in_cleared D N) n) (made n) e)

  by_made : (n : NodeId) → made n ≡ true → K n ≡ true
  by_made n e = or-right (m n) (either (either c (in_cleared D N)) made n) (or-right (either c (in_cleared D N) n) (made n) e)

  K_closed : IsClosedIn A K
  K_closed n p e up = elim (same_spot (D.place n) (A.place n)) [
    | inl same ↦ there (ap node_of same ∙ up) (or-cases (m n) (either (either c (in_cleared D N)) made n) e)
    | inr apart ↦ elim (apart_above n p up (λ _. apart)) [ inl q ↦ by_change_named p q | inr q ↦ by_made p (is_made p q) ]
  ]
    where
      there : above D n ≡ Some p → (m n ≡ true) ⊎ (either (either c (in_cleared D N)) made n ≡ true) → K p ≡ true
      there at (inl q) = or-left (m p) (either (either c (in_cleared D N)) made p) (step_closed D E S step n p q at)
      there at (inr q) = elim (or-cases (either c (in_cleared D N) n) (made n) q) [
        | inl w ↦ by_change_named p ((carried_covers D N C v x.before f change).closed n p w at)
        | inr w ↦ (let nowhere = unknown_nowhere D x.before n (f.fresh_nodes n (sym (listed.each n) ∙ w)) in let bad : ◌≡◌ {A = Option NodeId} None (Some p) = ap node_of (sym nowhere) ∙ at in cc)
      ]

  none_of : (n : NodeId) → K n ≡ false → (m n ≡ false) × (c n ≡ false) × (in_cleared D N n ≡ false) × (is_new N n ≡ false)
  none_of n e =
      let p = or_parts (m n) (either (either c (in_cleared D N)) made n) e in
      let q = or_parts (either c (in_cleared D N) n) (made n) p.1 in
      let r = or_parts (c n) (in_cleared D N n) q.0 in
      (p.0, r.0, r.1, sym (listed.each n) ∙ q.1)
    where
      or_parts : (a b : Bool) → (a || b) ≡ false → (a ≡ false) × (b ≡ false)
      or_parts true b e = cc
      or_parts false b e = (refl, e)

  K_changed : (n : NodeId) → IsChanged A B n → K n ≡ true
  K_changed n h = go (K n) refl
    where
      go : (b : Bool) → K n ≡ b → K n ≡ true
      go true e = e
      go false e = let w = none_of n e in absurd (left n (carried_known D N v f n h.0 w.3) w.0 w.1 w.2 h)

  -- ## Where it is void before the step and after it

  module _ (was : is_void v ≡ true) (is : is_void u ≡ true) where
    abbrev V : Nodes
    V = either m made

    A_is : A ≡ void D N
    A_is = carried_void D N v was

    B_is : B ≡ void E N
    B_is = carried_void E N u is

    V_closed : IsClosedIn A V
    V_closed n p e up = go (is_new N n) refl
      where
        up_void : above (void D N) n ≡ Some p
        up_void = subst (λ (F : Document). above F n ≡ Some p) A_is up

        go : (b : Bool) → is_new N n ≡ b → V p ≡ true
        go false q =
            let named : m n ≡ true = elim (or-cases (m n) (made n) e) [ inl w ↦ w | inr w ↦ absurd (true-false w (listed.each n ∙ q)) ] in
            or-left (m p) (made p) (step_closed D E S step n p named (ap node_of (sym (void_place D N f n q)) ∙ up_void))
        go true q = or-right (m p) (made p) (is_made p (void_above D N n p q (λ w. nowhere_above (sym w)) up_void))
          where
            nowhere_above : (void D N).place n ≡ D.place n → ⊥
            nowhere_above w = let bad : ◌≡◌ {A = Option NodeId} None (Some p) = ap node_of (sym (w ∙ unknown_nowhere D x.before n (f.fresh_nodes n q))) ∙ up_void in cc

    void_changed : (n : NodeId) → is_new N n ≡ false → IsSome (D.nodes n) → IsChanged (void D N) (void E N) n → IsChanged D E n
    void_changed n old known (there, inl apart) = (known, inl (λ q. apart (void_place D N f n old ∙ q ∙ sym (void_place E N g n old))))
    void_changed n old known (there, inr (inl apart)) =
        (known, inr (inl (λ q. apart (row_void D N n x.before f c new listed ∙ ap (row_carried (row_part_of c new N n) true) q ∙ sym (row_void E N n x.after g c new listed)))))
    void_changed n old known (there, inr (inr w)) =
        (known, inr (inr (w.0, w.1, λ q. w.2 (held D f w.0 (ap (is_new N) w.1 ∙ old) ∙ q ∙ sym (held E g w.0 (ap (is_new N) w.1 ∙ old))))))
      where
        held : (F : Document) → Fits F N → (k : FieldId) → is_new N k.node ≡ false → (void F N).held k ≡ F.held k
        held F h k e = register_void F N (λ _. true) k h ∙ ap (λ b. cond b (Rattle.st_register.specs.Register.only_made (is_new N) (Rattle.st_marks.specs.Intent.put_in N k)) (F.held k)) e

    V_changed : (n : NodeId) → IsChanged A B n → V n ≡ true
    V_changed n h = go (is_new N n) refl
      where
        go : (b : Bool) → is_new N n ≡ b → V n ≡ true
        go true e = or-right (m n) (made n) (is_made n e)
        go false e =
            let known = carried_known D N v f n h.0 e in
            let changed : IsChanged (void D N) (void E N) n = subst (λ (F : Document). IsChanged F (void E N) n) A_is (subst (λ (F : Document). IsChanged A F n) B_is h) in
            or-left (m n) (made n) ((step.which n).1 (n, void_changed n e known changed, zero, refl))

  -- ## Either way

  pub across_covers : CoversStep A B (named_across D N m c made (is_void v) (is_void u))
  across_covers = go (is_void v) refl (is_void u) refl
    where
      go : (a : Bool) → is_void v ≡ a → (b : Bool) → is_void u ≡ b → CoversStep A B (named_across D N m c made a b)
      go true p true q = record { closed = V_closed p q; changed = V_changed p q }
      go true p false q = record { closed = K_closed; changed = K_changed }
      go false p b q = record { closed = K_closed; changed = K_changed }
