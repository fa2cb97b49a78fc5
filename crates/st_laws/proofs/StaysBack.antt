-- A change stays as it is over a step and its way back, where the step makes no cell in the rows that it lists.
use Rattle.std.proofs.Common.{◌≡◌, ◌≢◌, ℕ, zero, suc, Bool, true, false, ◌&&◌, ◌||◌, not, List, [], ◌∷◌, ◌++◌, map, Option, Some, None, IsSome, IfSome, is_some, cond, option_and_then, refl, sym, ap, ◌∙◌, subst, inl, inr}
use Rattle.std.specs.List.{list_any}
use Rattle.std.specs.Option.{option_map_or}
use Rattle.st_ids.specs.Listing.{AreDistinct, Has, item_of}
use Rattle.st_ids.specs.Order.{node_cmp, same_node}
use Rattle.st_ids.specs.Root.{root}
use Rattle.st_ids.specs.declared.names.CellId.{CellId}
use Rattle.st_ids.specs.declared.names.FieldId.{FieldId}
use Rattle.st_ids.specs.declared.names.NodeId.{NodeId}
use Rattle.st_lemmas.proofs.Bools.{refuted-false}
use Rattle.st_lemmas.proofs.Options.{None-IsSome}
use Rattle.st_marks.specs.declared.changes.Change.{Change}
use Rattle.st_marks.specs.declared.intents.Group.{Group}
use Rattle.st_marks.specs.declared.intents.Intent.{Intent}
use Rattle.st_marks.specs.declared.intents.Owned.{Owned}
use Rattle.st_marks.specs.declared.intents.To.{To}
use Rattle.st_marks.specs.declared.marks.How.TheVariants.{Stay}
use Rattle.st_marks.specs.declared.marks.RegMark.{RegMark}
use Rattle.st_marks.specs.declared.marks.RowMarks.{RowMarks}
use Rattle.st_marks.specs.declared.places.Slot.{Slot}
use Rattle.st_marks.specs.declared.steps.Step.{Step}
use Rattle.st_marks.specs.Back.{is_in, retreat, unless_in}
use Rattle.st_marks.specs.Document.{Document, NodeType, above, climb, content, is_cell, node_of, owned_cell, slot}
use Rattle.st_marks.specs.Embedding.{IsEmbedding, IsMentionedByIntent, embed_loose, is_loose, is_nowhere, named_by_intent, register_part, row_marks, row_part, tells}
use Rattle.st_marks.specs.Extends.{GainsItems, IsExtendedBy, item_gained, item_kept, no_more}
use Rattle.st_marks.specs.Intent.{Fits, IsKnown, clears, group_at, put_in, put_of}
use Rattle.st_marks.specs.How.{is_here}
use Rattle.st_marks.specs.Listings.{cells_made, marks_of}
use Rattle.st_marks.specs.Register.{comes_in, embed_register, how_held}
use Rattle.st_marks.specs.Row.{CellMark, Counted, Fill, Gap, Make, RowPart, SameCell, Touch, embed_cell, embed_cells, embed_made, embed_row, how, merge, spread, step_cell, step_row}
use Rattle.st_marks.specs.Step.{IsStep}
use Rattle.st_marks.proofs.Climb.{above_known, is_cell-true}
use Rattle.st_marks.proofs.Full.{known_put}
use Rattle.st_marks.proofs.Later.{has_later, node_later}
use Rattle.st_marks.proofs.Lookups.{clears-has, group_at-group, made_there}
use Rattle.st_marks.proofs.Members.{all-has, map-has}
use Rattle.st_marks.proofs.Retreat.{back_old, retreat_extends}
use Rattle.st_marks.proofs.Turns.{extends_on}
use Rattle.st_mention_laws.proofs.Mentions.{same_names}
use Rattle.st_puts.proofs.NamesExact.{named-known}
use Rattle.st_puts.proofs.OverDocuments.{mentioned-known, row-listed}
use Rattle.st_puts.proofs.PutsOfIntents.{is_here-put}
use Rattle.st_rows.proofs.KindLaws.{spread-merge}
use Rattle.st_laws.specs.Unmade.{MakesNoneIn}

-- ## A row in which no cell is made

step-made : (m : NodeId → Bool) (c : CellId) (n : NodeId) (x y : Bool) (xs : List CellMark) → cells_made (step_cell m c n x y ∷ xs) ≡ cells_made xs
step-made m c n true true xs = go (m n)
  where
    go : (b : Bool) → cells_made (cond b (Touch c n Stay) Counted ∷ xs) ≡ cells_made xs
    go true = refl
    go false = refl
step-made m c n true false xs = refl
step-made m c n false true xs = refl
step-made m c n false false xs = refl

-- cells with their owners
abbrev names_of : List Slot → List Owned
names_of c = map (λ (s : Slot). owned_cell s.cell s.node) c

names-content : (D : Document) (os : List Owned) → names_of (map (slot D) os) ≡ os
names-content D [] = refl
names-content D (o ∷ os) = ap (λ (l : List Owned). o ∷ l) (names-content D os)

-- has the cells of the row before
unmade-names : (m : NodeId → Bool) {c d : List Slot} (g : GainsItems SameCell c d) → cells_made (step_row m g) ≡ [] → names_of c ≡ names_of d
unmade-names m no_more e = refl
unmade-names m (item_gained g) e = cc
unmade-names m (item_kept {x = s} {y = t} same g) e =
    λ i. owned_cell (same.0 i) (same.1 i) ∷ unmade-names m g (sym (step-made m s.cell s.node s.full t.full (step_row m g)) ∙ e) i

-- marks that tell nothing make no cell
untold-unmade : (xs : List CellMark) → list_any tells xs ≡ false → cells_made xs ≡ []
untold-unmade [] e = refl
untold-unmade (Counted ∷ xs) e = untold-unmade xs e
untold-unmade (Gap c ∷ xs) e = untold-unmade xs e
untold-unmade (Touch c n h ∷ xs) e = cc
untold-unmade (Make c n b ∷ xs) e = cc
untold-unmade (Fill c n ∷ xs) e = cc

-- a row of which the listing makes no cell
listed-unmade : (rows : List RowMarks) (n : NodeId) (cells : List CellMark) → item_of node_cmp (λ (r : RowMarks). r.node) rows n ≡ row_marks n cells → cells_made (marks_of rows n) ≡ [] → cells_made cells ≡ []
listed-unmade rows n cells e none = go (list_any tells cells) refl (sym (ap (λ o. cells_made (option_map_or (λ (r : RowMarks). spread r.marks) o [])) e) ∙ none)
  where
    go : (b : Bool) → list_any tells cells ≡ b → cells_made (option_map_or (λ (r : RowMarks). spread r.marks) (cond b (Some (record { node = n; marks = merge cells })) None) []) ≡ [] → cells_made cells ≡ []
    go true f k = sym (ap cells_made (spread-merge cells)) ∙ k
    go false f k = untold-unmade cells f

-- ## A row that isn't listed

any-more : (l : List CellMark) (a b : List CellMark) → list_any tells a ≡ list_any tells b → list_any tells (l ++ a) ≡ list_any tells (l ++ b)
any-more [] a b e = e
any-more (z ∷ l) a b e = ap (λ t. tells z || t) (any-more l a b e)

-- a cell of which nothing is told, and behind which nothing is made
abbrev IsUntold : RowPart → Document → Owned → Type 0
IsUntold p R o = (tells (embed_cell p o.cell o.node (slot R o).full) ≡ false) × (p.new_cells (Some o.cell) ≡ [])

-- with cells more of which nothing is told, a row is listed as before
same-told : (p : RowPart) (D R : Document) {xs ys : List Owned} → GainsItems (λ (o q : Owned). o ≡ q) xs ys → AreDistinct (λ (o : Owned). o.cell) ys
    → ((o : Owned) → Has xs o → slot R o ≡ slot D o) → ((o : Owned) → Has ys o → (Has (map (λ (o : Owned). o.cell) xs) o.cell → ⊥) → IsUntold p R o)
    → list_any tells (embed_cells p (map (slot D) xs)) ≡ list_any tells (embed_cells p (map (slot R) ys))
same-told p D R no_more once same more = refl
same-told p D R (item_gained {y = y} {xs = xs} {ys = ys} g) once same more =
    let w = more y (inl refl) (λ h. fresh h) in
    same-told p D R g once.1 same (λ o i none. more o (inr i) none)
    ∙ sym (λ i. w.0 i || list_any tells (embed_made p (w.1 i) ++ embed_cells p (map (slot R) ys)))
  where
    has-cell : (os : List Owned) (c : CellId) → Has (map (λ (o : Owned). o.cell) os) c → (o : Owned) × Has os o × (o.cell ≡ c)
    has-cell [] c h = absurd h
    has-cell (o ∷ os) c (inl e) = (o, inl refl, e)
    has-cell (o ∷ os) c (inr h) = let r = has-cell os c h in (r.0, inr r.1, r.2)

    fresh : Has (map (λ (o : Owned). o.cell) xs) y.cell → ⊥
    fresh h = let o = has-cell xs y.cell h in all-has (λ (v : Owned). v.cell ≢ y.cell) ys o.0 once.0 (has_later g o.0 o.1) o.2
same-told p D R (item_kept {x = o} {y = q} {xs = xs} {ys = ys} e g) once same more =
    row-more (slot D o) (embed_cells p (map (slot D) xs)) (embed_cells p (map (slot R) ys)) (same-told p D R g once.1 (λ u i. same u (inr i)) (λ u i none. more u (inr i) (later u i none)))
    ∙ ap (λ s. told s (embed_cells p (map (slot R) ys))) (sym (same o (inl refl)) ∙ ap (slot R) e)
  where
    told : Slot → List CellMark → Bool
    told s rest = list_any tells (embed_cell p s.cell s.node s.full ∷ (embed_made p (p.new_cells (Some s.cell)) ++ rest))

    row-more : (s : Slot) (a b : List CellMark) → list_any tells a ≡ list_any tells b → told s a ≡ told s b
    row-more s a b k = ap (λ t. tells (embed_cell p s.cell s.node s.full) || t) (any-more (embed_made p (p.new_cells (Some s.cell))) a b k)

    later : (u : Owned) → Has ys u → (Has (map (λ (o : Owned). o.cell) xs) u.cell → ⊥) → Has (map (λ (o : Owned). o.cell) (o ∷ xs)) u.cell → ⊥
    later u i none (inl k) = all-has (λ (v : Owned). v.cell ≢ q.cell) ys u once.0 i (sym k ∙ ap (λ (v : Owned). v.cell) e)
    later u i none (inr h) = none h

module _ (D E : Document) (N : Intent) (C : Change) (x : IsExtendedBy D E) (f : Fits D N) (h : Fits E N) (emb : IsEmbedding D N C) where
  abbrev R : Document
  R = retreat D E

  abbrev m : NodeId → Bool
  m = emb.mentioned

  abbrev part : NodeId → RowPart
  part n = row_part m N n

  one-node : {a b : NodeId} → ◌≡◌ {A = Option NodeId} (Some a) (Some b) → a ≡ b
  one-node q = cc

  -- ## Who is mentioned

  old-place : (n : NodeId) → IsSome (D.nodes n) → R.place n ≡ D.place n
  old-place n k = back_old D E x n k

  same-climb : (k : ℕ) (s : NodeId) → IsSome (D.nodes s) → climb (above R) k s ≡ climb (above D) k s
  same-climb zero s known = refl
  same-climb (suc k) s known = ap (λ p. option_and_then (climb (above R) k) (node_of p)) (old-place s known) ∙ go (above D s) refl (λ p there. same-climb k p there)
    where
      go : (o : Option NodeId) → above D s ≡ o → ((p : NodeId) → IsSome (D.nodes p) → climb (above R) k p ≡ climb (above D) k p) → option_and_then (climb (above R) k) o ≡ option_and_then (climb (above D) k) o
      go None e rest = refl
      go (Some p) e rest = rest p (above_known D x.before s p e)

  fits : Fits R N
  fits = record {
    itself = h.itself;
    fresh_nodes = h.fresh_nodes;
    fresh_cells = h.fresh_cells;
    fresh_schema = f.fresh_schema;
    groups_known = h.groups_known;
    owners_known = h.owners_known;
    puts_known = h.puts_known;
    clears_known = h.clears_known;
    needs_known = h.needs_known;
  }

  names : named_by_intent R N ≡ named_by_intent D N
  names = same_names D R N (extends_on D E R x (retreat_extends D E x)) f fits

  mentioned-back : (n : NodeId) → IsMentionedByIntent D N n → IsMentionedByIntent R N n
  mentioned-back n w = (w.0, subst (λ l. Has l w.0) (sym names) w.1, node_later D E x w.0 w.2, w.3, same-climb w.3 w.0 w.2 ∙ w.4)

  mentioned-before : (n : NodeId) → IsMentionedByIntent R N n → IsMentionedByIntent D N n
  mentioned-before n w =
      let named = subst (λ l. Has l w.0) names w.1 in
      let known : IsSome (D.nodes w.0) = elim (named-known D N C x.before f emb w.0 named) [
        | inl new ↦ absurd (None-IsSome (E.nodes w.0) (h.fresh_nodes w.0 new) w.2)
        | inr k ↦ k
      ] in
      (w.0, named, known, w.3, sym (same-climb w.3 w.0 known) ∙ w.4)

  mentioned-old : (n : NodeId) → m n ≡ true → IsSome (D.nodes n)
  mentioned-old n e = mentioned-known D N C x.before f emb n e

  unmentioned : (n : NodeId) → D.nodes n ≡ None → m n ≡ false
  unmentioned n e = refuted-false (m n) (λ k. None-IsSome (D.nodes n) e (mentioned-old n k))

  -- ## Rows

  same-slot : (n : NodeId) (o : Owned) → Has (D.rows n) o → slot R o ≡ slot D o
  same-slot n o i = λ j. record { cell = o.cell; node = o.node; full = is_cell o.cell (old-place o.node (x.before.cells_known n o i).1 j) }

  same-slots : (n : NodeId) (os : List Owned) → ((o : Owned) → Has os o → Has (D.rows n) o) → map (slot R) os ≡ map (slot D) os
  same-slots n [] sub = refl
  same-slots n (o ∷ os) sub = λ j. same-slot n o (sub o (inl refl)) j ∷ same-slots n os (λ q i. sub q (inr i)) j

  -- a cell that the earlier row hasn't
  module _ (n : NodeId) (o : Owned) (there : Has (E.rows n) o) (none : Has (map (λ (o : Owned). o.cell) (D.rows n)) o.cell → ⊥) where
    in-row : E.row_of o.cell ≡ Some n
    in-row = (x.after.one_row o.cell n).1 (o.node, there)

    no-row : (r q : NodeId) → Has (D.rows r) (owned_cell o.cell q) → ⊥
    no-row r q i =
        let later : E.row_of o.cell ≡ Some r = (x.after.one_row o.cell r).1 (q, has_later (x.rows r) (owned_cell o.cell q) i) in
        none (subst (λ y. Has (map (λ (o : Owned). o.cell) (D.rows y)) o.cell) (one-node (sym later ∙ in-row)) (map-has (λ (o : Owned). o.cell) (D.rows r) (owned_cell o.cell q) i))

    unput : (k : NodeId) → put_of N k ≡ Some (To.Cell o.cell) → ⊥
    unput k e = elim (known_put D N f k (To.Cell o.cell) e).1 [
      | inl r ↦ no-row r.0 k r.1
      | inr g ↦ (let bad : None ≡ Some n = sym (h.fresh_cells o.cell (made_there N (owned_cell o.cell k) g)) ∙ in-row in cc)
    ]

    ungrouped : group_at N n (Some o.cell) ≡ []
    ungrouped = go (group_at N n (Some o.cell)) refl
      where
        go : (os : List Owned) → group_at N n (Some o.cell) ≡ os → os ≡ []
        go [] e = refl
        go (u ∷ us) e =
            let g = group_at-group N n (Some o.cell) u (subst (λ l. Has l u) (sym e) (inl refl)) in
            let known = (all-has (λ (k : Group). IsKnown D N k.node × IfSome k.after (λ c. D.row_of c ≡ Some k.node)) N.groups g.group f.groups_known g.listed).1 in
            let row : D.row_of o.cell ≡ Some g.group.node = subst (λ a. IfSome a (λ c. D.row_of c ≡ Some g.group.node)) g.after known in
            let w = (x.before.one_row o.cell g.group.node).0 row in
            absurd (no-row g.group.node w.0 w.1)

    untold : tells (embed_cell (part n) o.cell o.node (slot R o).full) ≡ false
    untold = go (is_cell o.cell (R.place o.node)) refl
      where
        go : (b : Bool) → is_cell o.cell (R.place o.node) ≡ b → tells (embed_cell (part n) o.cell o.node b) ≡ false
        go true e = ap (λ b. tells (cond b (Touch o.cell o.node (how (put_of N o.node) (To.Cell o.cell))) Counted)) (refuted-false (m o.node) (λ k.
            let known = mentioned-old o.node k in
            let at = is_cell-true o.cell (D.place o.node) (ap (is_cell o.cell) (sym (old-place o.node known)) ∙ e) in
            no-row at.0 o.node (x.before.own_cell o.node at.0 o.cell at.1)))
        go false e = ap (λ b. tells (cond b (Fill o.cell o.node) (Gap o.cell))) (refuted-false (is_here (how (put_of N o.node) (To.Cell o.cell))) (λ k. unput o.node (is_here-put (put_of N o.node) (To.Cell o.cell) k)))

  same-tells : (n : NodeId) → list_any tells (embed_row (part n) (content D n)) ≡ list_any tells (embed_row (part n) (content R n))
  same-tells n = any-more (embed_made (part n) ((part n).new_cells None)) (embed_cells (part n) (content D n)) (embed_cells (part n) (content R n))
      (same-told (part n) D R (x.rows n) (x.after.once n) (λ o i. same-slot n o i) (λ o i none. (untold n o i none, ungrouped n o i none)))

  -- ## Registers and loose nodes

  same-register : (k : FieldId) → embed_register k (register_part m N k) (D.held k) ≡ embed_register k (register_part m N k) (R.held k)
  same-register k = go (D.nodes k.node) refl
    where
      held-by : Option NodeId → Option NodeId → Option NodeType → Option RegMark
      held-by a b t = embed_register k (register_part m N k) (cond (is_some t) a b)

      go : (t : Option NodeType) → D.nodes k.node ≡ t → embed_register k (register_part m N k) (D.held k) ≡ embed_register k (register_part m N k) (R.held k)
      go (Some t) e = ap (held-by (D.held k) (unless_in D (E.held k))) (sym e)
      go None e = old (D.held k) refl ∙ new (E.held k) refl ∙ ap (held-by (D.held k) (unless_in D (E.held k))) (sym e)
        where
          old : (o : Option NodeId) → D.held k ≡ o → embed_register k (register_part m N k) (D.held k) ≡ embed_register k (register_part m N k) None
          old None q = ap (embed_register k (register_part m N k)) q
          old (Some z) q = absurd (None-IsSome (D.nodes k.node) e (x.before.held_known z k q).1)

          -- a register of a node that isn't there isn't cleared
          unclear : (z : NodeId) → E.held k ≡ Some z → clears N k ≡ false
          unclear z q = refuted-false (clears N k) (λ c. elim (all-has (λ (f : FieldId). IsKnown D N f.node) N.clear k f.clears_known (clears-has N.clear k c)) [
            | inl new ↦ None-IsSome (E.nodes k.node) (h.fresh_nodes k.node new) (x.after.held_known z k q).1
            | inr known ↦ None-IsSome (D.nodes k.node) e known
          ])

          new : (o : Option NodeId) → E.held k ≡ o → embed_register k (register_part m N k) None ≡ embed_register k (register_part m N k) (unless_in D (E.held k))
          new None q = ap (λ o. embed_register k (register_part m N k) (unless_in D o)) (sym q)
          new (Some z) q = at (is_in D z) refl ∙ ap (λ o. embed_register k (register_part m N k) (unless_in D o)) (sym q)
            where
              unknown : is_in D z ≡ false → D.nodes z ≡ None
              unknown u = none (D.nodes z) u
                where
                  none : (t : Option NodeType) → is_some t ≡ false → t ≡ None
                  none None v = refl
                  none (Some t) v = cc

              at : (b : Bool) → is_in D z ≡ b → embed_register k (register_part m N k) None ≡ embed_register k (register_part m N k) (cond b None (Some z))
              at true u = refl
              at false u =
                  (λ i. cond (unclear z q i || false) (Some (mark None)) None)
                  ∙ sym (λ i. cond (unclear z q i || unmentioned z (unknown u) i) (Some (mark (Some z))) None)
                where
                  mark : Option NodeId → RegMark
                  mark o = record { field = k; held = o; how = how_held k (register_part m N k) o; clear = clears N k; fill = comes_in o (put_in N k) }

  same-loose : (n : NodeId) → embed_loose m D N n ≡ embed_loose m R N n
  same-loose n = ap (λ b. cond b (Some (record { node = n; how = how (put_of N n) To.Nowhere })) None) (go (m n) refl)
    where
      go : (b : Bool) → m n ≡ b → is_loose m D n ≡ is_loose m R n
      go true e = ap (λ s. m n && is_nowhere s && not (same_node n root)) (sym (old-place n (mentioned-old n e)))
      go false e = (λ i. e i && is_nowhere (D.place n) && not (same_node n root)) ∙ sym (λ i. e i && is_nowhere (R.place n) && not (same_node n root))

  module _ (S : Step) (s : IsStep D E S) (bare : MakesNoneIn S C) where
    -- a row that the change lists
    same-row : (n : NodeId) → list_any tells (embed_row (part n) (content D n)) ≡ true → content D n ≡ content R n
    same-row n e =
        let r = row-listed D N C x.before f emb n e in
        let none = subst (λ y. cells_made (marks_of S.rows y) ≡ []) r.2 (all-has (λ (r : RowMarks). cells_made (marks_of S.rows r.node) ≡ []) C.rows r.0 bare r.1) in
        let made = listed-unmade S.rows n (step_row s.mentioned (s.grows n)) (s.rows.at_each n) none in
        let rows : D.rows n ≡ E.rows n = sym (names-content D (D.rows n)) ∙ unmade-names s.mentioned (s.grows n) made ∙ names-content E (E.rows n) in
        sym (same-slots n (D.rows n) (λ o i. i)) ∙ ap (map (slot R)) rows

    row-stays : (n : NodeId) → row_marks n (embed_row (part n) (content D n)) ≡ row_marks n (embed_row (part n) (content R n))
    row-stays n = go (list_any tells (embed_row (part n) (content D n))) refl
      where
        go : (b : Bool) → list_any tells (embed_row (part n) (content D n)) ≡ b → row_marks n (embed_row (part n) (content D n)) ≡ row_marks n (embed_row (part n) (content R n))
        go true e = ap (λ c. row_marks n (embed_row (part n) c)) (same-row n e)
        go false e =
            ap (λ b. cond b (Some (record { node = n; marks = merge (embed_row (part n) (content D n)) })) None) e
            ∙ sym (ap (λ b. cond b (Some (record { node = n; marks = merge (embed_row (part n) (content R n)) })) None) (sym (same-tells n) ∙ e))

    pub stays_back : IsEmbedding R N C
    stays_back = record {
      mentioned = m;
      which = λ n. ((λ e. mentioned-back n ((emb.which n).0 e)), (λ w. (emb.which n).1 (mentioned-before n w)));
      rev = emb.rev;
      under = emb.under;
      base = emb.base;
      schema = emb.schema;
      need = emb.need;
      new = emb.new;
      rows = record { rising = emb.rows.rising; at_each = λ n. emb.rows.at_each n ∙ row-stays n };
      regs = record { rising = emb.regs.rising; at_each = λ k. emb.regs.at_each k ∙ same-register k };
      loose = record { rising = emb.loose.rising; at_each = λ n. emb.loose.at_each n ∙ same-loose n };
    }
