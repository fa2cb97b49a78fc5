-- A step, with an empty cell for each that a void commit made, lists the step from the document after that commit to the later
-- document after it.
use Rattle.std.proofs.Common.{◌≡◌, ◌≢◌, zero, Bool, true, false, ◌||◌, ◌&&◌, not, List, [], ◌∷◌, map, is_some, Option, Some, None, MatchOption, cond, refl, sym, ap, ◌∙◌, subst, inl, inr, ◌⊎◌, IsSome}
use Rattle.std.specs.Option.{option_or}
use Rattle.st_ids.specs.Listing.{Has, IsListing, IsRising, item_of}
use Rattle.st_ids.specs.Order.{field_cmp, node_cmp, same_node}
use Rattle.st_ids.specs.Root.{root}
use Rattle.st_ids.specs.declared.names.FieldId.{FieldId}
use Rattle.st_ids.specs.declared.names.NodeId.{NodeId}
use Rattle.st_marks.specs.declared.changes.Change.{Change}
use Rattle.st_marks.specs.declared.changes.NewNode.{NewNode}
use Rattle.st_marks.specs.declared.intents.Intent.{Intent}
use Rattle.st_marks.specs.declared.intents.Owned.{Owned}
use Rattle.st_marks.specs.declared.marks.How.TheVariants.{Stay, Leave}
use Rattle.st_marks.specs.declared.marks.Loose.{Loose}
use Rattle.st_marks.specs.declared.marks.RegStep.{RegStep}
use Rattle.st_marks.specs.declared.marks.RowMarks.{RowMarks}
use Rattle.st_marks.specs.declared.places.Spot.{Spot}
use Rattle.st_marks.specs.declared.steps.Step.{Step}
use Rattle.st_marks.specs.CarryOut.{only_new, void}
use Rattle.st_marks.specs.Document.{Document, IsSoundInForm, NodeType, above, content, node_of, slot}
use Rattle.st_marks.specs.Embedding.{IsEmbedding, is_nowhere}
use Rattle.st_marks.specs.Extends.{IsExtendedBy}
use Rattle.st_marks.specs.Intent.{Fits, is_new, new_type, put_in, same_option}
use Rattle.st_marks.specs.Listings.{nodes_new}
use Rattle.st_marks.specs.Register.{holds_mentioned, step_register}
use Rattle.st_marks.specs.Step.{IsChanged, IsSchemaStep, IsStep, gained_node, step_loose}
use Rattle.st_marks.proofs.Shared.{held-same}
use Rattle.st_rows.specs.Sequence.{RowFits, row_carried, row_part_of}
use Rattle.st_rows.proofs.DocumentsAfter.{void_is}
use Rattle.st_rows.proofs.Existence.{contents_grow, lists_new}
use Rattle.st_steps.specs.Across.{IsAcross}
use Rattle.st_trim.specs.Trimmed.{ListsStep}
use Rattle.st_steps.proofs.AcrossRows.{row_across-listed}
use Rattle.st_puts.proofs.ListedIf.{shown-Some}
use Rattle.st_trim.proofs.StepsInTurn.{step_closed}
use Rattle.st_steps.proofs.VoidPlaces.{is_data, new_alike, new_held, old_held, old_known, old_stays}

module _ (D E : Document) (N : Intent) (C : Change) (S : Step) (x : IsExtendedBy D E) (f : Fits D N) (h : Fits E N) (data_alone : N.schema ≡ None) (emb : IsEmbedding D N C) (s : IsStep D E S) (ext : IsExtendedBy (void D N) (void E N)) (mention_known : (n : NodeId) → s.mentioned n ≡ true → IsSome (D.nodes n)) (after_covered : (n : NodeId) → RowFits (row_part_of emb.mentioned (nodes_new C.new) N n) (content E n)) where
  abbrev V : Document
  V = void D N

  abbrev W : Document
  W = void E N

  known_later : (n : NodeId) → IsSome (D.nodes n) → is_new N n ≡ false
  known_later n q = old_known D N x.before f data_alone n q

  old_named : (n : NodeId) → s.mentioned n ≡ true → is_new N n ≡ false
  old_named n e = known_later n (mention_known n e)

  stays_before : (n : NodeId) → is_new N n ≡ false → V.place n ≡ D.place n
  stays_before n e = old_stays D N x.before f data_alone n e

  stays_after : (n : NodeId) → is_new N n ≡ false → W.place n ≡ E.place n
  stays_after n e = old_stays E N x.after h data_alone n e

  -- ## What is named

  closed_across : (n p : NodeId) → s.mentioned n ≡ true → above V n ≡ Some p → s.mentioned p ≡ true
  closed_across n p e up = step_closed D E S s n p e (ap node_of (sym (stays_before n (old_named n e))) ∙ up)

  same_row : (n : NodeId) → content D n ≡ content E n → content V n ≡ content W n
  same_row n e = void_is D N n x.before f emb.mentioned (nodes_new C.new) (lists_new D N C emb) ∙ ap (row_carried (row_part_of emb.mentioned (nodes_new C.new) N n) true) e ∙ sym (void_is E N n x.after h emb.mentioned (nodes_new C.new) (lists_new D N C emb))

  not_some : {A : Type 0} (o : Option A) → o ≡ None → IsSome o → ⊥
  not_some None e w = cc
  not_some (Some t) e w = cc

  no_cells : (A : Document) → IsSoundInForm A → (n : NodeId) → A.nodes n ≡ None → A.rows n ≡ []
  no_cells A y n e = go (A.rows n) (λ o w. (y.cells_known n o w).0)
    where
      go : (os : List Owned) → ((o : Owned) → Has os o → IsSome (A.nodes n)) → os ≡ []
      go [] w = refl
      go (o ∷ os) w = absurd (not_some (A.nodes n) e (w o (inl refl)))

  changed_across : (n : NodeId) → IsChanged V W n → s.mentioned n ≡ true
  changed_across n (there, why) = go (is_new N n) refl
    where
      nodes_before : V.nodes n ≡ option_or (D.nodes n) (new_type N n)
      nodes_before = ap (λ (A : Document). A.nodes n) (is_data D N x.before f data_alone)

      -- a new node stands alike in both, and holds the same
      same_new : is_new N n ≡ true → (V.place n ≢ W.place n) ⊎ (content V n ≢ content W n) ⊎ ((k : FieldId) × (k.node ≡ n) × (V.held k ≢ W.held k)) → ⊥
      same_new e (inl q) = q (new_alike D E N x f h data_alone n e)
      same_new e (inr (inl q)) = q (same_row n (empty D (no_cells D x.before n (f.fresh_nodes n e)) ∙ sym (empty E (no_cells E x.after n (h.fresh_nodes n e)))))
        where
          empty : (A : Document) → A.rows n ≡ [] → content A n ≡ []
          empty A w = ap (map (slot A)) w
      same_new e (inr (inr q)) = q.2 (new_held D N x.before f data_alone q.0 (ap (is_new N) q.1 ∙ e) ∙ sym (new_held E N x.after h data_alone q.0 (ap (is_new N) q.1 ∙ e)))

      changed : is_new N n ≡ false → (V.place n ≢ W.place n) ⊎ (content V n ≢ content W n) ⊎ ((k : FieldId) × (k.node ≡ n) × (V.held k ≢ W.held k))
          → (D.place n ≢ E.place n) ⊎ (content D n ≢ content E n) ⊎ ((k : FieldId) × (k.node ≡ n) × (D.held k ≢ E.held k))
      changed e (inl q) = inl (λ w. q (stays_before n e ∙ w ∙ sym (stays_after n e)))
      changed e (inr (inl q)) = inr (inl (λ w. q (same_row n w)))
      changed e (inr (inr q)) = inr (inr (q.0, q.1, λ w. q.2 (old_held D N x.before f data_alone q.0 (ap (is_new N) q.1 ∙ e) ∙ w ∙ sym (old_held E N x.after h data_alone q.0 (ap (is_new N) q.1 ∙ e)))))

      known : is_new N n ≡ false → IsSome (D.nodes n)
      known e = go (D.nodes n) refl (subst (λ o. IsSome o) nodes_before there)
        where
          go : (o : Option NodeType) → D.nodes n ≡ o → IsSome (option_or (D.nodes n) (new_type N n)) → IsSome (D.nodes n)
          go (Some t) q w = subst (λ o. IsSome o) (sym q) refl
          go None q w = absurd (none (new_type N n) e (subst (λ o. IsSome (option_or o (new_type N n))) q w))
            where
              none : (o : Option NodeType) → is_some o ≡ false → IsSome o → ⊥
              none None e w = cc
              none (Some t) e w = cc

      go : (b : Bool) → is_new N n ≡ b → s.mentioned n ≡ true
      go true e = absurd (same_new e why)
      go false e = (s.which n).1 (n, (known e, changed e why), zero, refl)

  -- ## New nodes, loose nodes, registers

  gained_across : (n : NodeId) → gained_node n (D.nodes n) (E.nodes n) ≡ gained_node n (V.nodes n) (W.nodes n)
  gained_across n =
      go (new_type N n) refl
      ∙ sym (λ i. gained_node n ((is_data D N x.before f data_alone i).nodes n) ((is_data E N x.after h data_alone i).nodes n))
    where
      go : (o : Option NodeType) → new_type N n ≡ o → gained_node n (D.nodes n) (E.nodes n) ≡ gained_node n (option_or (D.nodes n) (new_type N n)) (option_or (E.nodes n) (new_type N n))
      go None e = λ i. gained_node n (sym (none (D.nodes n)) i) (sym (none (E.nodes n)) i)
        where
          none : (o : Option NodeType) → option_or o (new_type N n) ≡ o
          none None = e
          none (Some t) = refl
      go (Some t) e =
          let made : is_new N n ≡ true = ap is_some e in
          (λ i. gained_node n (f.fresh_nodes n made i) (h.fresh_nodes n made i))
          ∙ sym (λ i. gained_node n (option_or (f.fresh_nodes n made i) (e i)) (option_or (h.fresh_nodes n made i) (e i)))

  loose_across : (n : NodeId) → step_loose s.mentioned D E n ≡ step_loose s.mentioned V W n
  loose_across n = go (s.mentioned n) refl
    where
      go : (b : Bool) → s.mentioned n ≡ b → step_loose s.mentioned D E n ≡ step_loose s.mentioned V W n
      go true e = λ i. cond {A = Option Loose} (s.mentioned n && is_nowhere (sym (stays_before n (old_named n e)) i) && not (same_node n root)) (Some (record { node = n; how = cond (is_nowhere (sym (stays_after n (old_named n e)) i)) Stay Leave })) None
      go false e = none (D.place n) (E.place n) ∙ sym (none (V.place n) (W.place n))
        where
          none : (p q : Spot) → ◌≡◌ {A = Option Loose} (cond (s.mentioned n && is_nowhere p && not (same_node n root)) (Some (record { node = n; how = cond (is_nowhere q) Stay Leave })) None) None
          none p q = ap (λ b. cond {A = Option Loose} (b && is_nowhere p && not (same_node n root)) (Some (record { node = n; how = cond (is_nowhere q) Stay Leave })) None) e

  registers_across : (k : FieldId) → step_register k s.mentioned (D.held k) (E.held k) ≡ step_register k s.mentioned (V.held k) (W.held k)
  registers_across k = go (is_new N k.node) refl
    where
      go : (b : Bool) → is_new N k.node ≡ b → step_register k s.mentioned (D.held k) (E.held k) ≡ step_register k s.mentioned (V.held k) (W.held k)
      go false e = λ i. step_register k s.mentioned (sym (old_held D N x.before f data_alone k e) i) (sym (old_held E N x.after h data_alone k e) i)
      go true e =
          silent (D.held k) (E.held k) (none D x.before f ∙ sym (none E x.after h)) (ap (holds_mentioned s.mentioned) (none D x.before f))
          ∙ sym (silent (V.held k) (W.held k) (new_held D N x.before f data_alone k e ∙ sym (new_held E N x.after h data_alone k e)) (ap (holds_mentioned s.mentioned) (new_held D N x.before f data_alone k e) ∙ unnamed (put_in N k)))
        where
          silent : (a b : Option NodeId) → a ≡ b → holds_mentioned s.mentioned a ≡ false → step_register k s.mentioned a b ≡ None
          silent a b q w = λ i. cond {A = Option RegStep} (not (held-same a b q i) || w i) (Some (record { field = k; before = a; after = b })) None

          none : (A : Document) → IsSoundInForm A → Fits A N → A.held k ≡ None
          none A y w = at (A.held k) refl
            where
              at : (o : Option NodeId) → A.held k ≡ o → o ≡ None
              at None q = refl
              at (Some n) q = absurd (not_some (A.nodes k.node) (w.fresh_nodes k.node e) (y.held_known n k q).1)

          unnamed : (o : Option NodeId) → holds_mentioned s.mentioned (only_new N o) ≡ false
          unnamed None = refl
          unnamed (Some n) = at (is_new N n) refl (s.mentioned n) refl
            where
              at : (b : Bool) → is_new N n ≡ b → (c : Bool) → s.mentioned n ≡ c → holds_mentioned s.mentioned (cond b (Some n) None) ≡ false
              at false q c w = refl
              at true q false w = w
              at true q true w = let bad : ◌≡◌ {A = Bool} true false = sym q ∙ old_named n w in cc

  -- ## All of it

  pub lists_across : (G : Step) → IsAcross C S G → ListsStep V W s.mentioned G
  lists_across G g = record {
    covers = record { closed = closed_across; changed = changed_across };
    schema = subst (IsSchemaStep V.schemas W.schemas) (sym g.schema) (subst (λ l. IsSchemaStep l W.schemas S.schema) (ap (λ (A : Document). A.schemas) (sym (is_data D N x.before f data_alone))) (subst (λ l. IsSchemaStep D.schemas l S.schema) (ap (λ (A : Document). A.schemas) (sym (is_data E N x.after h data_alone))) s.schema));
    new = subst (λ (l : List NewNode). IsListing node_cmp (λ (m : NewNode). m.node) l (λ n. gained_node n (V.nodes n) (W.nodes n))) (sym g.new_nodes) (record { rising = s.new.rising; at_each = λ n. s.new.at_each n ∙ gained_across n });
    grows = λ n. contents_grow V W n ext;
    rows_rise = g.rows.rising;
    rows = λ n. row_across-listed D E N C S x f h data_alone emb s ext mention_known after_covered n (contents_grow V W n ext) (item_of node_cmp (λ (r : RowMarks). r.node) G.rows n) (g.rows.at_each n);
    regs_rise = subst (λ (l : List RegStep). IsRising field_cmp (λ (r : RegStep). r.field) l) (sym g.regs) s.regs.rising;
    regs = λ k. register_at k;
    loose = subst (λ (l : List Loose). IsListing node_cmp (λ (l : Loose). l.node) l (step_loose s.mentioned V W)) (sym g.loose) (record { rising = s.loose.rising; at_each = λ n. s.loose.at_each n ∙ loose_across n });
  }
    where
      register_at : (k : FieldId) → MatchOption (item_of field_cmp (λ (r : RegStep). r.field) G.regs k) (step_register k s.mentioned (V.held k) (W.held k) ≡ None) (λ r. r ≡ record { field = k; before = V.held k; after = W.held k })
      register_at k = at (item_of field_cmp (λ (r : RegStep). r.field) G.regs k) (ap (λ (l : List RegStep). item_of field_cmp (λ (r : RegStep). r.field) l k) g.regs ∙ s.regs.at_each k ∙ registers_across k)
        where
          at : (o : Option RegStep) → o ≡ step_register k s.mentioned (V.held k) (W.held k) → MatchOption o (step_register k s.mentioned (V.held k) (W.held k) ≡ None) (λ r. r ≡ record { field = k; before = V.held k; after = W.held k })
          at None e = sym e
          at (Some r) e = shown-Some (not (same_option same_node (V.held k) (W.held k)) || holds_mentioned s.mentioned (V.held k)) (record { field = k; before = V.held k; after = W.held k }) r (sym e)
