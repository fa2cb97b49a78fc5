-- What a step leaves is so in the document to which it leads.
use Rattle.std.proofs.Common.{◌≡◌, ◌≢◌, Bool, true, false, ◌||◌, not, List, [], ◌∷◌, ◌++◌, map, Option, Some, None, option_map, cond, refl, sym, ap, ◌∙◌, subst, inl, inr, ◌⊎◌}
use Rattle.std.specs.List.{flat_map, list_any}
use Rattle.std.specs.Option.{option_or}
use Rattle.st_ids.specs.Listing.{Has, item_of}
use Rattle.st_ids.specs.Order.{field_cmp, node_cmp, same_node}
use Rattle.st_ids.specs.declared.names.FieldId.{FieldId}
use Rattle.st_ids.specs.declared.names.NodeId.{NodeId}
use Rattle.st_marks.specs.declared.intents.Owned.{Owned}
use Rattle.st_marks.specs.declared.marks.How.TheVariants.{Stay}
use Rattle.st_marks.specs.declared.marks.Loose.{Loose}
use Rattle.st_marks.specs.declared.marks.RegStep.{RegStep}
use Rattle.st_marks.specs.declared.marks.RowMarks.{RowMarks}
use Rattle.st_marks.specs.declared.places.Slot.{Slot}
use Rattle.st_marks.specs.declared.places.Spot.{Spot}
use Rattle.st_marks.specs.declared.steps.Step.{Step}
use Rattle.st_marks.specs.Document.{Document, IsSoundInForm, content, slot}
use Rattle.st_marks.specs.Embedding.{is_among, row_marks, tells}
use Rattle.st_marks.specs.Extends.{IsExtendedBy}
use Rattle.st_marks.specs.Intent.{same_option}
use Rattle.st_marks.specs.Register.{holds_mentioned}
use Rattle.st_marks.specs.Row.{CellMark, Touch, merge, spread, step_row}
use Rattle.st_marks.specs.Listings.{CellView, cells_after, cells_before, listing_after_step, nodes_loose, nodes_new, nodes_standing, one_or_none, placed_after, placed_before}
use Rattle.st_marks.specs.Step.{IsStep}
use Rattle.st_marks.proofs.Members.{append_left, append_right, flat_map-has, has-any, has-append, has-flat_map, has-map, map-has}
use Rattle.st_ids.proofs.Orders.{same_node-itself}
use Rattle.st_lemmas.proofs.Bools.{and-true, or-right}
use Rattle.st_lemmas.proofs.Options.{None-IsSome}
use Rattle.st_agree_laws.proofs.MadeOnce.{step_makes_new}
use Rattle.st_agree_laws.proofs.NamesApart.{among-has}
use Rattle.st_agree_laws.proofs.ShownTruth.{IsTrueOf}
use Rattle.st_puts.proofs.StepPlaces.{StaysOrLeaves, comes-put, has-reg, held-place, loose-place, put-at, reg-is, told-listed, touch-place, touched-as}
use Rattle.st_rows.proofs.KindLaws.{spread-merge}
use Rattle.st_rows.proofs.ViewsOfRows.{DescribeAll, step_leaves}
use Rattle.st_turn_laws.proofs.LeftMarks.{incoming-standing, none-gained, standing-touched, stay-standing}

-- a row that is listed, or is that of a new node
told-row : (c : List Slot) (n : NodeId) (marks : List CellMark) (new : Bool) (o : Option RowMarks) (cells : List CellView) → o ≡ row_marks n marks
    → option_or (option_map (λ (r : RowMarks). cells_after (spread r.marks)) o) (cond new (Some []) None) ≡ Some cells
    → DescribeAll c (cells_after marks) → (new ≡ true → list_any tells marks ≡ false → c ≡ []) → DescribeAll c cells
told-row c n marks new o cells e f h bare = go (list_any tells marks) refl (sym (ap (λ o. option_or (option_map (λ (r : RowMarks). cells_after (spread r.marks)) o) (cond new (Some []) None)) e) ∙ f)
  where
    go : (b : Bool) → list_any tells marks ≡ b → option_or (option_map (λ (r : RowMarks). cells_after (spread r.marks)) (cond b (Some (record { node = n; marks = merge marks })) None)) (cond new (Some []) None) ≡ Some cells → DescribeAll c cells
    go true w q = let k : cells_after (spread (merge marks)) ≡ cells = cc in subst (DescribeAll c) (sym (ap cells_after (spread-merge marks)) ∙ k) h
    go false w q = at new refl q
      where
        at : (v : Bool) → new ≡ v → cond v (Some []) None ≡ Some cells → DescribeAll c cells
        at true u p = let k : ◌≡◌ {A = List CellView} [] cells = cc in subst (DescribeAll c) k (subst (λ d. DescribeAll d []) (sym (bare u w)) tt)
        at false u p = cc

-- a register that is listed, or is one of a new node
told-register : (new b : Bool) (r : RegStep) (i : Option RegStep) (h o : Option NodeId) → i ≡ cond b (Some r) None → r.after ≡ h
    → option_or (option_map (λ (r : RegStep). r.after) i) (cond new (Some None) None) ≡ Some o → (new ≡ true → b ≡ false → h ≡ None) → h ≡ o
told-register new true r i h o e a f bare =
    let k : ◌≡◌ {A = Option (Option NodeId)} (Some r.after) (Some o) = sym (ap (λ i. option_or (option_map (λ (r : RegStep). r.after) i) (cond new (Some None) None)) e) ∙ f in
    sym a ∙ some k
  where
    some : {x y : Option NodeId} → ◌≡◌ {A = Option (Option NodeId)} (Some x) (Some y) → x ≡ y
    some {x} q = ap at q
      where
        at : Option (Option NodeId) → Option NodeId
        at None = x
        at (Some z) = z
told-register new false r i h o e a f bare = at new refl (sym (ap (λ i. option_or (option_map (λ (r : RegStep). r.after) i) (cond new (Some None) None)) e) ∙ f)
  where
    some : {x y : Option NodeId} → ◌≡◌ {A = Option (Option NodeId)} (Some x) (Some y) → x ≡ y
    some {x} q = ap pick q
      where
        pick : Option (Option NodeId) → Option NodeId
        pick None = x
        pick (Some z) = z

    at : (v : Bool) → new ≡ v → cond v (Some None) None ≡ Some o → h ≡ o
    at true u p = bare u refl ∙ some p
    at false u p = cc

-- a register that holds nobody, and of which a step tells nothing, holds nobody after it
none-comes : (m : NodeId → Bool) (a o : Option NodeId) → a ≡ None → (not (same_option same_node a o) || holds_mentioned m a) ≡ false → o ≡ None
none-comes m None None e f = refl
none-comes m None (Some k) e f = cc
none-comes m (Some a) o e f = cc

-- a node that isn't there has no cells, and its registers hold nobody
no-cells : (D : Document) → IsSoundInForm D → (n : NodeId) → D.nodes n ≡ None → content D n ≡ []
no-cells D x n e = go (D.rows n) refl
  where
    go : (os : List Owned) → D.rows n ≡ os → map (slot D) os ≡ []
    go [] f = refl
    go (o ∷ os) f = absurd (None-IsSome (D.nodes n) e (x.cells_known n o (subst (λ l. Has l o) (sym f) (inl refl))).0)

nobody-held : (D : Document) → IsSoundInForm D → (f : FieldId) → D.nodes f.node ≡ None → D.held f ≡ None
nobody-held D x f e = go (D.held f) refl
  where
    go : (o : Option NodeId) → D.held f ≡ o → o ≡ None
    go None q = refl
    go (Some k) q = absurd (None-IsSome (D.nodes f.node) e (x.held_known k f q).1)

-- nor does it stand anywhere
stands-nowhere : (D : Document) → IsSoundInForm D → (n : NodeId) → D.nodes n ≡ None → D.place n ≡ Spot.Nowhere
stands-nowhere D x n e = go (D.place n) refl
  where
    go : (s : Spot) → D.place n ≡ s → s ≡ Spot.Nowhere
    go Spot.Nowhere q = refl
    go (Spot.Row r c) q = absurd (None-IsSome (D.nodes n) e (x.cells_known r _ (x.own_cell n r c q)).1)
    go (Spot.Register f) q = absurd (None-IsSome (D.nodes n) e (x.held_known n f ((x.one_held n f).1 q)).0)

is-one : (o : Option NodeId) (n : NodeId) → o ≡ Some n → Has (one_or_none o) n
is-one o n e = subst (λ o. Has (one_or_none o) n) (sym e) (inl refl)

one-is : (o : Option NodeId) (n : NodeId) → Has (one_or_none o) n → o ≡ Some n
one-is None n h = absurd h
one-is (Some k) n (inl e) = ap (λ y. Some y) e
one-is (Some k) n (inr h) = absurd h

has-among : (ns : List NodeId) (n : NodeId) → Has ns n → is_among ns n ≡ true
has-among ns n h = has-any (λ k. same_node k n) ns n h (same_node-itself n)

module _ (D E : Document) (S : Step) (x : IsExtendedBy D E) (s : IsStep D E S) where
  abbrev m : NodeId → Bool
  m = s.mentioned

  abbrev placed : List NodeId
  placed = placed_after S.rows (map (λ (r : RegStep). r.after) S.regs)

  in-rows : (r : RowMarks) (n : NodeId) → Has S.rows r → Has (nodes_standing (cells_after (spread r.marks))) n → Has placed n
  in-rows r n i j = append_left (flat_map (λ (r : RowMarks). nodes_standing (cells_after (spread r.marks))) S.rows) (flat_map one_or_none (map (λ (r : RegStep). r.after) S.regs)) n
      (flat_map-has (λ (r : RowMarks). nodes_standing (cells_after (spread r.marks))) S.rows r n i j)

  in-registers : (r : RegStep) (n : NodeId) → Has S.regs r → r.after ≡ Some n → Has placed n
  in-registers r n i e = append_right (flat_map (λ (r : RowMarks). nodes_standing (cells_after (spread r.marks))) S.rows) (flat_map one_or_none (map (λ (r : RegStep). r.after) S.regs)) n
      (flat_map-has one_or_none (map (λ (r : RegStep). r.after) S.regs) r.after n (map-has (λ (r : RegStep). r.after) S.regs r i) (is-one r.after n e))

  -- who stands elsewhere, or is mentioned, is shown where it stands
  comes-placed : (n : NodeId) → E.place n ≢ Spot.Nowhere → D.place n ≢ E.place n → Has placed n
  comes-placed n h differs =
      let w = put-at D E S x s n (comes-put D E S x s n (E.place n) (refl, differs) h) in
      elim w.2 [
        | inl r ↦ in-rows r.0 n r.1 (incoming-standing (spread r.0.marks) n r.3)
        | inr r ↦ in-registers r.0 n r.1 ((reg-is D E S x s r.0 r.1).1 ∙ (x.after.one_held n r.0.field).1 (w.1.0 ∙ r.2))
      ]

  stays-placed : (n : NodeId) → E.place n ≢ Spot.Nowhere → D.place n ≡ E.place n → m n ≡ true → Has placed n
  stays-placed n h same named = go (E.place n) refl
    where
      go : (p : Spot) → E.place n ≡ p → Has placed n
      go Spot.Nowhere e = absurd (h e)
      go (Spot.Row r a) e = elim (touched-as D E S x s n r a named (same ∙ e)) [
        | inl w ↦ (let q = told-listed D E S x s r (Touch a n Stay) w.1 refl in in-rows q.0 n q.1 (stay-standing (spread q.0.marks) a n q.3))
        | inr w ↦ absurd (w.0 same)
      ]
      go (Spot.Register f) e =
          let before = (x.before.one_held n f).1 (same ∙ e) in
          let after = (x.after.one_held n f).1 e in
          let i = has-reg D E S x s f (or-right (not (same_option same_node (D.held f) (E.held f))) (holds_mentioned m (D.held f)) (ap (holds_mentioned m) before ∙ named)) in
          in-registers _ n i after

  stands-placed : (n : NodeId) → E.place n ≢ Spot.Nowhere → ((D.place n ≢ E.place n) ⊎ ((D.place n ≡ E.place n) × (m n ≡ true))) → Has placed n
  stands-placed n h (inl d) = comes-placed n h d
  stands-placed n h (inr w) = stays-placed n h w.0 w.1

  of-fate : (n : NodeId) (h : Rattle.st_marks.specs.declared.marks.How.How) → StaysOrLeaves D E S x s n h → (D.place n ≢ E.place n) ⊎ ((D.place n ≡ E.place n) × (m n ≡ true))
  of-fate n h (inl w) = inr (w.1, w.2)
  of-fate n h (inr w) = inl w.1

  -- a new node, and one that is listed before, stands elsewhere or is mentioned
  there-fate : (n : NodeId) → E.place n ≢ Spot.Nowhere
      → Has (nodes_new S.new ++ nodes_loose S.loose ++ placed_before S.rows (map (λ (r : RegStep). r.before) S.regs)) n
      → (D.place n ≢ E.place n) ⊎ ((D.place n ≡ E.place n) × (m n ≡ true))
  there-fate n h i = elim (has-append (nodes_new S.new ++ nodes_loose S.loose) (placed_before S.rows (map (λ (r : RegStep). r.before) S.regs)) n i) [
    | inl j ↦ elim (has-append (nodes_new S.new) (nodes_loose S.loose) n j) [
      | inl k ↦ inl (λ e. h (sym e ∙ stands-nowhere D x.before n (step_makes_new D E S x s n (has-among (nodes_new S.new) n k)).0))
      | inr k ↦ (let l = has-map (λ (l : Loose). l.node) S.loose n k in
          let w = loose-place D E S x s l.0 l.1 in
          inl (λ e. h (sym e ∙ subst (λ y. D.place y ≡ Spot.Nowhere) l.2 w.0)))
    ]
    | inr j ↦ elim (has-append (flat_map (λ (r : RowMarks). nodes_standing (cells_before (spread r.marks))) S.rows) (flat_map one_or_none (map (λ (r : RegStep). r.before) S.regs)) n j) [
      | inl k ↦ (let r = has-flat_map (λ (r : RowMarks). nodes_standing (cells_before (spread r.marks))) S.rows n k in
          let t = standing-touched (spread r.0.marks) n r.2 in
          of-fate n t.1 (touch-place D E S x s r.0 t.0 n t.1 r.1 t.2).1)
      | inr k ↦ (let o = has-flat_map one_or_none (map (λ (r : RegStep). r.before) S.regs) n k in
          let r = has-map (λ (r : RegStep). r.before) S.regs o.0 o.1 in
          of-fate n _ (held-place D E S x s r.0 n r.1 (r.2 ∙ one-is o.0 n o.2)).1)
    ]
  ]

  nowhere-true : (n : NodeId) → (listing_after_step S).nowhere n ≡ true → E.place n ≡ Spot.Nowhere
  nowhere-true n e = go (E.place n) refl
    where
      there : List NodeId
      there = nodes_new S.new ++ nodes_loose S.loose ++ placed_before S.rows (map (λ (r : RegStep). r.before) S.regs)

      parts : (is_among there n ≡ true) × (not (is_among placed n) ≡ true)
      parts = and-true (is_among there n) (not (is_among placed n)) e

      not-both : (b : Bool) → b ≡ true → not b ≡ true → ⊥
      not-both true p q = cc
      not-both false p q = cc

      never : E.place n ≢ Spot.Nowhere → ⊥
      never h = not-both (is_among placed n) (has-among placed n (stands-placed n h (there-fate n h (among-has there n parts.0)))) parts.1

      go : (p : Spot) → E.place n ≡ p → E.place n ≡ Spot.Nowhere
      go Spot.Nowhere q = q
      go (Spot.Row r c) q = absurd (never (λ w. (let k : Spot.Row r c ≡ Spot.Nowhere = sym q ∙ w in cc)))
      go (Spot.Register f) q = absurd (never (λ w. (let k : Spot.Register f ≡ Spot.Nowhere = sym q ∙ w in cc)))

  new-node : (n : NodeId) → is_among (nodes_new S.new) n ≡ true → D.nodes n ≡ None
  new-node n e = (step_makes_new D E S x s n e).0

  pub left_true : IsTrueOf E (listing_after_step S)
  left_true = record {
    rows = λ n cells e. told-row (content E n) n (step_row m (s.grows n)) (is_among (nodes_new S.new) n) (item_of node_cmp (λ (r : RowMarks). r.node) S.rows n) cells (s.rows.at_each n) e (step_leaves m (s.grows n))
        (λ new bare. none-gained m (s.grows n) (no-cells D x.before n (new-node n new)) bare);
    registers = λ f o e. told-register (is_among (nodes_new S.new) f.node) (not (same_option same_node (D.held f) (E.held f)) || holds_mentioned m (D.held f)) (record { field = f; before = D.held f; after = E.held f })
        (item_of field_cmp (λ (r : RegStep). r.field) S.regs f) (E.held f) o (s.regs.at_each f) refl e
        (λ new bare. none-comes m (D.held f) (E.held f) (nobody-held D x.before f (new-node f.node new)) bare);
    nowhere = nowhere-true;
  }
