-- The way back over a step, read as a change, is the embedding of the intent that leads back.
use Rattle.std.proofs.Common.{◌≡◌, ◌≢◌, ◌↔◌, ℕ, zero, suc, Bool, true, false, ◌||◌, ◌&&◌, not, List, [], ◌∷◌, ◌++◌, map, Option, Some, None, MatchOption, option_map, option_and_then, cond, refl, sym, ap, ◌∙◌, subst, inl, inr, ◌⊎◌, IsSome, IsTrue, is_some}
use Rattle.std.specs.List.{filter_map}
use Rattle.st_ids.specs.Listing.{Has}
use Rattle.st_ids.specs.Order.{field_cmp, same_cell, same_field, same_node}
use Rattle.st_ids.specs.Root.{root}
use Rattle.st_ids.proofs.Orders.{same_cell-itself, same_cell-true, same_field-itself}
use Rattle.st_ids.proofs.Shared.{filter-from}
use Rattle.st_ids.specs.declared.names.CellId.{CellId}
use Rattle.st_ids.specs.declared.names.FieldId.{FieldId}
use Rattle.st_ids.specs.declared.names.NodeId.{NodeId}
use Rattle.st_ids.specs.declared.names.Rev.{Rev}
use Rattle.st_kind.specs.Named.{Nodes}
use Rattle.st_lemmas.proofs.Bools.{true-false}
use Rattle.st_marks.specs.declared.intents.Group.{Group}
use Rattle.st_marks.specs.declared.intents.Intent.{Intent}
use Rattle.st_marks.specs.declared.intents.Owned.{Owned}
use Rattle.st_marks.specs.declared.intents.Put.{Put}
use Rattle.st_marks.specs.declared.intents.To.{To}
use Rattle.st_marks.specs.declared.marks.How.TheVariants.{Stay, Here, Leave}
use Rattle.st_marks.specs.declared.marks.Loose.{Loose}
use Rattle.st_marks.specs.declared.marks.RegMark.{RegMark}
use Rattle.st_marks.specs.declared.marks.RegStep.{RegStep}
use Rattle.st_marks.specs.declared.places.Spot.{Spot}
use Rattle.st_marks.specs.declared.steps.Step.{Step}
use Rattle.st_marks.specs.Back.{IsBack, is_in, place_back, retreat, to_of, unless_in}
use Rattle.st_marks.specs.Document.{Document, NodeType, above, climb, content, is_cell, node_of, owned_cell, slot}
use Rattle.st_marks.specs.Embedding.{IsEmbedding, IsMentionedByIntent, embed_loose, is_among, is_nowhere, named_by_intent, register_part, row_marks, row_part}
use Rattle.st_marks.specs.Extends.{GainsItems, IsExtendedBy, no_more, item_kept}
use Rattle.st_marks.specs.How.{is_here}
use Rattle.st_marks.specs.Intent.{cell_of, clears, group_at, new_node, put_in, put_of, same_option}
use Rattle.st_marks.specs.Register.{comes_in, embed_register, holds_mentioned, how_held, step_register}
use Rattle.st_marks.specs.Row.{Counted, Gap, Touch, Fill, RowPart, SameCell, embed_cell, embed_cells, embed_made, embed_row, how, same_to, step_cell, step_row}
use Rattle.st_marks.specs.Step.{IsChanged, IsMentionedByStep, IsStep, step_loose}
use Rattle.st_marks.specs.Verdict.{IsBaseInEffect}
use Rattle.st_marks.proofs.Climb.{is_cell-true, shown, stands, unknown_nowhere}
use Rattle.st_marks.proofs.Lookups.{clears-has, has-put, has-put_in, put-has, put_in-has}
use Rattle.st_marks.proofs.Members.{append_left, append_right, has-any, has-append, has-filter_map, has-map, map-has}
use Rattle.st_marks.proofs.Retreat.{retreat_one_held, retreat_sound}
use Rattle.st_marks.proofs.Shared.{held-same, same-held, same_to-true}
use Rattle.st_mention_laws.proofs.Mentions.{mentioned_above}
use Rattle.st_rows.proofs.Documents.{can_hold}
use Rattle.st_rows.proofs.KindLaws.{same_grown}
use Rattle.st_revert.proofs.MappedLists.{listing-map}
use Rattle.st_revert.specs.inside.ReadBack.{mark_back, read_back}

-- ## Puts and places

-- a node that is put back into a cell that isn't its place doesn't stay
to_cell : (c : CellId) (s : Spot) → is_cell c s ≡ false → same_to (to_of s) (To.Cell c) ≡ false
to_cell c Spot.Nowhere e = refl
to_cell c (Spot.Register f) e = refl
to_cell c (Spot.Row n d) e = go (same_cell d c) refl
  where
    go : (b : Bool) → same_cell d c ≡ b → b ≡ false
    go false q = refl
    go true q = absurd (true-false (ap (same_cell c) (same_cell-true d c q) ∙ same_cell-itself c) e)

to_cell-true : (c : CellId) (s : Spot) → is_cell c s ≡ true → same_to (to_of s) (To.Cell c) ≡ true
to_cell-true c s e = let r = is_cell-true c s e in ap (λ p. same_to (to_of p) (To.Cell c)) r.1 ∙ same_cell-itself c

to_spot : (s : Spot) (f : FieldId) → to_of s ≡ To.Register f → s ≡ Spot.Register f
to_spot Spot.Nowhere f e = cc
to_spot (Spot.Row n c) f e = cc
to_spot (Spot.Register g) f e = let q : g ≡ f = cc in ap (λ k. Spot.Register k) q

-- all cells stay
abbrev staying : (A B : Document) (os : List Owned) → GainsItems SameCell (map (slot A) os) (map (slot B) os)
staying A B [] = no_more
staying A B (o ∷ os) = item_kept (refl, refl) (staying A B os)

-- two rows with the same cells are the same, or one of the cells is full in one alone
apart_at : (A B : Document) (os : List Owned) → ((o : Owned) × Has os o × (is_cell o.cell (A.place o.node) ≢ is_cell o.cell (B.place o.node))) ⊎ (map (slot A) os ≡ map (slot B) os)
apart_at A B [] = inr refl
apart_at A B (o ∷ os) = go (is_cell o.cell (A.place o.node)) refl (is_cell o.cell (B.place o.node)) refl (apart_at A B os)
  where
    Same : Type 0
    Same = ((p : Owned) × Has (o ∷ os) p × (is_cell p.cell (A.place p.node) ≢ is_cell p.cell (B.place p.node))) ⊎ (map (slot A) (o ∷ os) ≡ map (slot B) (o ∷ os))

    rest : (a : Bool) → is_cell o.cell (A.place o.node) ≡ a → is_cell o.cell (B.place o.node) ≡ a
        → ((p : Owned) × Has os p × (is_cell p.cell (A.place p.node) ≢ is_cell p.cell (B.place p.node))) ⊎ (map (slot A) os ≡ map (slot B) os) → Same
    rest a e q (inl w) = inl (w.0, inr w.1, w.2)
    rest a e q (inr w) = inr (λ i. record { cell = o.cell; node = o.node; full = (e ∙ sym q) i } ∷ w i)

    go : (a : Bool) → is_cell o.cell (A.place o.node) ≡ a → (b : Bool) → is_cell o.cell (B.place o.node) ≡ b
        → ((p : Owned) × Has os p × (is_cell p.cell (A.place p.node) ≢ is_cell p.cell (B.place p.node))) ⊎ (map (slot A) os ≡ map (slot B) os) → Same
    go true e true q w = rest true e q w
    go false e false q w = rest false e q w
    go true e false q w = inl (o, inl refl, λ z. true-false (sym z ∙ e) q)
    go false e true q w = inl (o, inl refl, λ z. true-false q (sym z ∙ e))

module _ (D E : Document) (x : IsExtendedBy D E) (rev under : Rev) (B : Intent) (b : IsBack D E rev under B) where
  abbrev back : Document
  back = retreat D E

  abbrev Told : (n : NodeId) → Option To → Type 0
  Told n o = MatchOption o (place_back D E n ≡ E.place n) (λ to. (place_back D E n ≢ E.place n) × (to ≡ to_of (place_back D E n)))

  put_some : (n : NodeId) (to : To) → put_of B n ≡ Some to → (place_back D E n ≢ E.place n) × (to ≡ to_of (place_back D E n))
  put_some n to e = subst (Told n) e (b.puts_what_differs n)

  put_when : (n : NodeId) → place_back D E n ≢ E.place n → put_of B n ≡ Some (to_of (place_back D E n))
  put_when n apart = go (put_of B n) (b.puts_what_differs n)
    where
      go : (o : Option To) → Told n o → o ≡ Some (to_of (place_back D E n))
      go None h = absurd (apart h)
      go (Some to) h = ap Some h.1

  unput_when : (n : NodeId) → place_back D E n ≡ E.place n → put_of B n ≡ None
  unput_when n same = go (put_of B n) (b.puts_what_differs n)
    where
      go : (o : Option To) → Told n o → o ≡ None
      go None h = refl
      go (Some to) h = absurd (h.0 same)

  -- a node that is put back is there
  moved_known : (n : NodeId) → place_back D E n ≢ E.place n → IsSome (E.nodes n)
  moved_known n apart = go (E.nodes n) refl
    where
      go : (o : Option NodeType) → E.nodes n ≡ o → IsSome o
      go (Some k) e = refl
      go None e = absurd (apart (unknown_nowhere back (retreat_sound D E x) n e ∙ sym (unknown_nowhere E x.after n e)))

  no_group : (n : NodeId) (a : Option CellId) → group_at B n a ≡ []
  no_group n a = rw b.nothing_new.1 refl

  in_old : (A : Document) (k : NodeId) → IsSome (A.nodes k) → is_in A k ≡ true
  in_old A k h = go (A.nodes k) h
    where
      go : (o : Option NodeType) → IsSome o → is_some o ≡ true
      go None h = cc
      go (Some u) h = refl

  is_known : (A : Document) (k : NodeId) → is_in A k ≡ true → IsSome (A.nodes k)
  is_known A k e = go (A.nodes k) e
    where
      go : (o : Option NodeType) → is_some o ≡ true → IsSome o
      go None e = cc
      go (Some u) e = refl

  -- ## Registers

  module _ (f : FieldId) where
    -- whose register is an old node's holds on the way back whom it held
    held_old : is_in D f.node ≡ true → back.held f ≡ D.held f
    held_old e = ap (λ z. cond z (D.held f) (unless_in D (E.held f))) e

    held_new : is_in D f.node ≡ false → back.held f ≡ unless_in D (E.held f)
    held_new e = ap (λ z. cond z (D.held f) (unless_in D (E.held f))) e

    -- an occupant that isn't there on the way back is put
    left_apart : (n : NodeId) → E.held f ≡ Some n → E.held f ≢ back.held f → place_back D E n ≢ E.place n
    left_apart n h apart e = apart (h ∙ sym ((retreat_one_held D E x n f).1 (e ∙ (x.after.one_held n f).0 h)))

    put_leads : (n : NodeId) → put_in B f ≡ Some n → (back.held f ≡ Some n) × (place_back D E n ≢ E.place n)
    put_leads n e =
        let p = put_some n (To.Register f) (has-put B b.itself (record { node = n; to = To.Register f }) (put_in-has B f n e)) in
        ((retreat_one_held D E x n f).1 (to_spot (place_back D E n) f (sym p.1)), p.0)

    -- who comes in is who is there on the way back, where that is another one
    fill_is : E.held f ≢ back.held f → put_in B f ≡ back.held f
    fill_is apart = go (put_in B f) refl (back.held f) refl
      where
        go : (o : Option NodeId) → put_in B f ≡ o → (p : Option NodeId) → back.held f ≡ p → o ≡ p
        go (Some n) e p q = sym (put_leads n e).0 ∙ q
        go None e None q = refl
        go None e (Some n) q =
            let at : place_back D E n ≡ Spot.Register f = (retreat_one_held D E x n f).0 q in
            let moves : place_back D E n ≢ E.place n = λ w. apart ((x.after.one_held n f).1 (sym w ∙ at) ∙ sym q) in
            let put : put_of B n ≡ Some (To.Register f) = put_when n moves ∙ ap (λ s. Some (to_of s)) at in
            let into = has-put_in B b.itself n f (put-has B n (To.Register f) put) in
            let bad : ◌≡◌ {A = Option NodeId} None (Some n) = sym e ∙ into in
            cc

    fill_none : E.held f ≡ back.held f → put_in B f ≡ None
    fill_none same = go (put_in B f) refl
      where
        go : (o : Option NodeId) → put_in B f ≡ o → o ≡ None
        go None e = refl
        go (Some n) e =
            let p = put_leads n e in
            absurd (p.1 ((retreat_one_held D E x n f).0 p.0 ∙ sym ((x.after.one_held n f).0 (same ∙ p.0))))

    unclear : E.held f ≡ back.held f → clears B f ≡ false
    unclear same = go (clears B f) refl
      where
        go : (z : Bool) → clears B f ≡ z → z ≡ false
        go false e = refl
        go true e = let w = (b.clears_what_differs f).0 e in absurd (w.1 (sym (same ∙ held_old (in_old D f.node w.0))))

    -- a register of a new node that differs held an old one
    held_left : is_in D f.node ≡ false → E.held f ≢ back.held f → (n : NodeId) × (E.held f ≡ Some n)
    held_left e apart = go (E.held f) refl
      where
        go : (o : Option NodeId) → E.held f ≡ o → (n : NodeId) × (o ≡ Some n)
        go None q = absurd (apart (q ∙ sym (held_new e ∙ ap (unless_in D) q)))
        go (Some n) q = (n, refl)

    how_stays : (m : Nodes) → E.held f ≡ back.held f → how_held f (register_part m B f) (E.held f) ≡ Stay
    how_stays m same = go (E.held f) refl
      where
        go : (o : Option NodeId) → E.held f ≡ o → how_held f (register_part m B f) o ≡ Stay
        go None e = refl
        go (Some n) e = ap (λ o. how o (To.Register f)) (unput_when n ((retreat_one_held D E x n f).0 (sym same ∙ e) ∙ sym ((x.after.one_held n f).0 e)))

    how_leaves : (m : Nodes) → E.held f ≢ back.held f → how_held f (register_part m B f) (E.held f) ≡ cond (is_some (E.held f)) Leave Stay
    how_leaves m apart = go (E.held f) refl
      where
        go : (o : Option NodeId) → E.held f ≡ o → how_held f (register_part m B f) o ≡ cond (is_some o) Leave Stay
        go None e = refl
        go (Some n) e = ap (λ o. how o (To.Register f)) (put_when n moves) ∙ ap (λ z. cond z Here Leave) (elsewhere (same_to (to_of (place_back D E n)) (To.Register f)) refl)
          where
            moves : place_back D E n ≢ E.place n
            moves = left_apart n e apart

            elsewhere : (z : Bool) → same_to (to_of (place_back D E n)) (To.Register f) ≡ z → z ≡ false
            elsewhere false q = refl
            elsewhere true q =
                let at = to_spot (place_back D E n) f (same_to-true (to_of (place_back D E n)) (To.Register f) q) in
                absurd (moves (at ∙ sym ((x.after.one_held n f).0 e)))

  -- ## What is mentioned

  abbrev puts : List NodeId
  puts = map (λ (p : Put). p.node) B.put

  abbrev groups : List NodeId
  groups = map (λ (g : Group). g.node) B.groups

  abbrev filled : List NodeId
  filled = filter_map (λ (p : Put). option_and_then E.row_of (cell_of p.to)) B.put

  abbrev cleared : List NodeId
  cleared = map (λ (f : FieldId). f.node) B.clear

  put_named : (n : NodeId) → place_back D E n ≢ E.place n → IsMentionedByIntent E B n
  put_named n apart =
      let named = map-has (λ (p : Put). p.node) B.put (record { node = n; to = to_of (place_back D E n) }) (put-has B n (to_of (place_back D E n)) (put_when n apart)) in
      (n, append_left (puts ++ B.need ++ groups ++ filled) cleared n (append_left (puts ++ B.need ++ groups) filled n (append_left (puts ++ B.need) groups n (append_left puts B.need n named))), moved_known n apart, zero, refl)

  -- the node of a register that differs
  register_named : (f : FieldId) → IsSome (E.nodes f.node) → E.held f ≢ back.held f → IsMentionedByIntent E B f.node
  register_named f known apart = go (is_in D f.node) refl
    where
      go : (z : Bool) → is_in D f.node ≡ z → IsMentionedByIntent E B f.node
      go true e =
          let clear : clears B f ≡ true = (b.clears_what_differs f).1 (is_known D f.node e, λ w. apart (sym w ∙ sym (held_old f e))) in
          let named = map-has (λ (k : FieldId). k.node) B.clear f (clears-has B.clear f clear) in
          (f.node, append_right (puts ++ B.need ++ groups ++ filled) cleared f.node named, known, zero, refl)
      go false e =
          let h = held_left f e apart in
          mentioned_above E B h.0 f.node (ap node_of ((x.after.one_held h.0 f).0 h.1)) (put_named h.0 (left_apart f h.0 h.1 apart))

  -- a cell is in one row
  one_row : (c : CellId) (k r n j : NodeId) → Has (E.rows r) (owned_cell c k) → Has (E.rows n) (owned_cell c j) → r ≡ n
  one_row c k r n j v u = let q : Some r ≡ Some n = sym ((x.after.one_row c r).1 (k, v)) ∙ (x.after.one_row c n).1 (j, u) in cc

  -- the node of a row that differs
  row_named : (n : NodeId) → IsSome (E.nodes n) → content E n ≢ content back n → IsMentionedByIntent E B n
  row_named n known apart = go (apart_at E back (E.rows n))
    where
      cell : (o : Owned) → Has (E.rows n) o → (a : Bool) → is_cell o.cell (E.place o.node) ≡ a → (z : Bool) → is_cell o.cell (place_back D E o.node) ≡ z → a ≢ z → IsMentionedByIntent E B n
      cell o h true e true q w = absurd (w refl)
      cell o h false e false q w = absurd (w refl)
      cell o h true e false q w =
          let r = is_cell-true o.cell (E.place o.node) e in
          let same = one_row o.cell o.node r.0 n o.node (x.after.own_cell o.node r.0 o.cell r.1) h in
          mentioned_above E B o.node n (ap node_of r.1 ∙ ap Some same) (put_named o.node (λ p. true-false e (ap (is_cell o.cell) (sym p) ∙ q)))
      cell o h false e true q w =
          let r = is_cell-true o.cell (place_back D E o.node) q in
          let moves : place_back D E o.node ≢ E.place o.node = λ p. true-false q (ap (is_cell o.cell) p ∙ e) in
          let put : put_of B o.node ≡ Some (To.Cell o.cell) = put_when o.node moves ∙ ap (λ s. Some (to_of s)) r.1 in
          let row : E.row_of o.cell ≡ Some n = (x.after.one_row o.cell n).1 (o.node, h) in
          let named = has-filter_map (λ (p : Put). option_and_then E.row_of (cell_of p.to)) B.put (record { node = o.node; to = To.Cell o.cell }) n (put-has B o.node (To.Cell o.cell) put) row in
          (n, append_left (puts ++ B.need ++ groups ++ filled) cleared n (append_right (puts ++ B.need ++ groups) filled n named), known, zero, refl)

      go : ((o : Owned) × Has (E.rows n) o × (is_cell o.cell (E.place o.node) ≢ is_cell o.cell (place_back D E o.node))) ⊎ (content E n ≡ content back n) → IsMentionedByIntent E B n
      go (inr same) = absurd (apart same)
      go (inl w) = cell w.0 w.1 (is_cell w.0.cell (E.place w.0.node)) refl (is_cell w.0.cell (place_back D E w.0.node)) refl w.2

  changed_named : (n : NodeId) → IsChanged E back n → IsMentionedByIntent E B n
  changed_named n (known, inl apart) = put_named n (λ e. apart (sym e))
  changed_named n (known, inr (inl apart)) = row_named n known apart
  changed_named n (known, inr (inr w)) = subst (IsMentionedByIntent E B) w.1 (register_named w.0 (subst (λ k. IsSome (E.nodes k)) (sym w.1) known) w.2)

  climb_named : (k : ℕ) (s n : NodeId) → IsMentionedByIntent E B s → climb (above E) k s ≡ Some n → IsMentionedByIntent E B n
  climb_named zero s n h e = let same : s ≡ n = cc in subst (IsMentionedByIntent E B) same h
  climb_named (suc k) s n h e = go (above E s) refl e (λ p up q. climb_named k p n (mentioned_above E B s p up h) q)
    where
      go : (o : Option NodeId) → above E s ≡ o → option_and_then (climb (above E) k) o ≡ Some n → ((p : NodeId) → above E s ≡ Some p → climb (above E) k p ≡ Some n → IsMentionedByIntent E B n) → IsMentionedByIntent E B n
      go None up q rest = cc
      go (Some p) up q rest = rest p up q

  step_to_intent : (n : NodeId) → IsMentionedByStep E back n → IsMentionedByIntent E B n
  step_to_intent n w = climb_named w.2 w.0 n (changed_named w.0 w.1) w.3

  put_changed : (p : Put) → Has B.put p → IsSome (E.nodes p.node) → IsChanged E back p.node
  put_changed p h known = (known, inl (λ e. (put_some p.node p.to (has-put B b.itself p h)).0 (sym e)))

  -- the row of a cell into which a node is put back
  cell_changed : (p : Put) (n : NodeId) → Has B.put p → option_and_then E.row_of (cell_of p.to) ≡ Some n → IsSome (E.nodes n) → IsChanged E back n
  cell_changed p n h e known = go (place_back D E p.node) refl
    where
      w : (place_back D E p.node ≢ E.place p.node) × (p.to ≡ to_of (place_back D E p.node))
      w = put_some p.node p.to (has-put B b.itself p h)

      go : (s : Spot) → place_back D E p.node ≡ s → IsChanged E back n
      go Spot.Nowhere q = let bad : ◌≡◌ {A = Option NodeId} None (Some n) = sym (ap (λ t. option_and_then E.row_of (cell_of t)) (w.1 ∙ ap to_of q)) ∙ e in cc
      go (Spot.Register f) q = let bad : ◌≡◌ {A = Option NodeId} None (Some n) = sym (ap (λ t. option_and_then E.row_of (cell_of t)) (w.1 ∙ ap to_of q)) ∙ e in cc
      go (Spot.Row r c) q =
          let row : E.row_of c ≡ Some n = sym (ap (λ t. option_and_then E.row_of (cell_of t)) (w.1 ∙ ap to_of q)) ∙ e in
          let own = (retreat_sound D E x).own_cell p.node r c q in
          let same : r ≡ n = let z : Some r ≡ Some n = sym ((x.after.one_row c r).1 (p.node, own)) ∙ row in cc in
          let full = shown back (retreat_sound D E x) p.node n c (q ∙ ap (λ k. Spot.Row k c) same) in (
            known,
            inr (inl (λ z.
                let at = stands E x.after p.node n c (subst (λ l. Has l (record { cell = c; node = p.node; full = true })) (sym z) full) in
                w.0 (q ∙ ap (λ k. Spot.Row k c) same ∙ sym at))),
          )

  clear_changed : (f : FieldId) → Has B.clear f → IsSome (E.nodes f.node) → IsChanged E back f.node
  clear_changed f h known =
      let d = (b.clears_what_differs f).0 (has-any (λ g. same_field g f) B.clear f h (same_field-itself f)) in
      (known, inr (inr (f, refl, λ e. d.1 (sym (e ∙ held_old f (in_old D f.node d.0))))))

  named_changed : (n : NodeId) → Has (named_by_intent E B) n → IsSome (E.nodes n) → IsChanged E back n
  named_changed n h known = first (has-append (puts ++ B.need ++ groups ++ filled) cleared n h)
    where
      last : Has puts n ⊎ Has B.need n → IsChanged E back n
      last (inl i) = let r = has-map (λ (p : Put). p.node) B.put n i in subst (IsChanged E back) r.2 (put_changed r.0 r.1 (subst (λ k. IsSome (E.nodes k)) (sym r.2) known))
      last (inr i) = absurd (subst (λ l. Has l n) b.nothing_new.2 i)

      third : Has (puts ++ B.need) n ⊎ Has groups n → IsChanged E back n
      third (inl i) = last (has-append puts B.need n i)
      third (inr i) = absurd (subst (λ l. Has (map (λ (g : Group). g.node) l) n) b.nothing_new.1 i)

      second : Has (puts ++ B.need ++ groups) n ⊎ Has filled n → IsChanged E back n
      second (inl i) = third (has-append (puts ++ B.need) groups n i)
      second (inr i) = let r = filter-from (λ (p : Put). option_and_then E.row_of (cell_of p.to)) B.put n i in cell_changed r.0 n r.1 r.2 known

      first : Has (puts ++ B.need ++ groups ++ filled) n ⊎ Has cleared n → IsChanged E back n
      first (inl i) = second (has-append (puts ++ B.need ++ groups) filled n i)
      first (inr i) = let r = has-map (λ (f : FieldId). f.node) B.clear n i in subst (IsChanged E back) r.2 (clear_changed r.0 r.1 (subst (λ k. IsSome (E.nodes k)) (sym r.2) known))

  intent_to_step : (n : NodeId) → IsMentionedByIntent E B n → IsMentionedByStep E back n
  intent_to_step n w = (w.0, named_changed w.0 w.1 w.2, w.3, w.4)

  -- ## The change

  module _ (T : Step) (t : IsStep E back T) (new : Nodes) (new_so : (n : NodeId) → new n ≡ (is_in E n && not (is_in D n))) where
    abbrev m : Nodes
    m = t.mentioned

    moved : (n : NodeId) → place_back D E n ≢ E.place n → m n ≡ true
    moved n apart = (t.which n).1 (n, (moved_known n apart, inl (λ e. apart (sym e))), zero, refl)

    -- ## Rows

    module _ (n : NodeId) where
      abbrev p : RowPart
      p = row_part m B n

      cell_is : (o : Owned) → Has (E.rows n) o → (a : Bool) → is_cell o.cell (E.place o.node) ≡ a → (z : Bool) → is_cell o.cell (place_back D E o.node) ≡ z
          → embed_cell p o.cell o.node a ≡ step_cell m o.cell o.node a z
      cell_is o h true e true q =
          let r = is_cell-true o.cell (E.place o.node) e in
          let u = is_cell-true o.cell (place_back D E o.node) q in
          let same : u.0 ≡ r.0 = one_row o.cell o.node u.0 r.0 o.node ((retreat_sound D E x).own_cell o.node u.0 o.cell u.1) (x.after.own_cell o.node r.0 o.cell r.1) in
          ap (λ g. cond (m o.node) (Touch o.cell o.node (how g (To.Cell o.cell))) Counted) (unput_when o.node (u.1 ∙ ap (λ k. Spot.Row k o.cell) same ∙ sym r.1))
      cell_is o h true e false q =
          let moves : place_back D E o.node ≢ E.place o.node = λ w. true-false e (ap (is_cell o.cell) (sym w) ∙ q) in
          ap (λ y. cond y (Touch o.cell o.node (how (put_of B o.node) (To.Cell o.cell))) Counted) (moved o.node moves)
          ∙ ap (λ g. Touch o.cell o.node (how g (To.Cell o.cell))) (put_when o.node moves)
          ∙ ap (λ y. Touch o.cell o.node (cond y Here Leave)) (to_cell o.cell (place_back D E o.node) q)
      cell_is o h false e true q =
          let moves : place_back D E o.node ≢ E.place o.node = λ w. true-false q (ap (is_cell o.cell) w ∙ e) in
          ap (λ g. cond (is_here (how g (To.Cell o.cell))) (Fill o.cell o.node) (Gap o.cell)) (put_when o.node moves)
          ∙ ap (λ y. cond (is_here (cond y Here Leave)) (Fill o.cell o.node) (Gap o.cell)) (to_cell-true o.cell (place_back D E o.node) q)
      cell_is o h false e false q = go (put_of B o.node) (b.puts_what_differs o.node)
        where
          go : (g : Option To) → Told o.node g → cond (is_here (how g (To.Cell o.cell))) (Fill o.cell o.node) (Gap o.cell) ≡ Gap o.cell
          go None w = refl
          go (Some to) w = ap (λ y. cond (is_here (cond y Here Leave)) (Fill o.cell o.node) (Gap o.cell)) (ap (λ s. same_to s (To.Cell o.cell)) w.1 ∙ to_cell o.cell (place_back D E o.node) q)

      cells_are : (os : List Owned) → ((o : Owned) → Has os o → Has (E.rows n) o) → embed_cells p (map (slot E) os) ≡ step_row m (staying E back os)
      cells_are [] h = refl
      cells_are (o ∷ os) h = λ i. cell_is o (h o (inl refl)) (is_cell o.cell (E.place o.node)) refl (is_cell o.cell (place_back D E o.node)) refl i
          ∷ (ap (λ l. embed_made p l ++ embed_cells p (map (slot E) os)) (no_group n (Some o.cell)) ∙ cells_are os (λ k w. h k (inr w))) i

      row_is : step_row m (t.grows n) ≡ embed_row p (content E n)
      row_is =
          (same_grown m (t.grows n) (staying E back (E.rows n)) (can_hold back (retreat_sound D E x) n).once).0
          ∙ sym (ap (λ l. embed_made p l ++ embed_cells p (content E n)) (no_group n None) ∙ cells_are (E.rows n) (λ o h. h))

    -- ## Registers

    module _ (f : FieldId) where
      abbrev marked : Option RegMark
      marked = Some (record { field = f; held = E.held f; how = how_held f (register_part m B f) (E.held f); clear = clears B f; fill = comes_in (E.held f) (put_in B f) })

      nobody_in : (o : Option NodeId) → comes_in o None ≡ None
      nobody_in o = go (same_option same_node o None)
        where
          go : (z : Bool) → cond {A = Option NodeId} z None None ≡ None
          go true = refl
          go false = refl

      comes : same_option same_node (E.held f) (back.held f) ≡ false → comes_in (E.held f) (back.held f) ≡ back.held f
      comes e = ap (λ z. cond z None (back.held f)) e

      apart_by : same_option same_node (E.held f) (back.held f) ≡ false → E.held f ≢ back.held f
      apart_by e w = true-false (held-same (E.held f) (back.held f) w) e

      -- a register that differs is listed, and cleared if its node was there
      cleared_is : E.held f ≢ back.held f → clears B f ≡ not (new f.node)
      cleared_is apart = go (is_in D f.node) refl
        where
          go : (z : Bool) → is_in D f.node ≡ z → clears B f ≡ not (new f.node)
          go true e =
              (b.clears_what_differs f).1 (is_known D f.node e, λ w. apart (sym w ∙ sym (held_old f e)))
              ∙ sym (ap not (new_so f.node ∙ ap (λ y. is_in E f.node && not y) e ∙ and-false (is_in E f.node)))
            where
              and-false : (y : Bool) → (y && false) ≡ false
              and-false true = refl
              and-false false = refl
          go false e =
              let h = held_left f e apart in
              let known = (x.after.held_known h.0 f h.1).1 in
              none (clears B f) refl ∙ sym (ap not (new_so f.node ∙ (λ i. in_old E f.node known i && not (e i))))
            where
              none : (y : Bool) → clears B f ≡ y → y ≡ false
              none false q = refl
              none true q = absurd (true-false (in_old D f.node ((b.clears_what_differs f).0 q).0) e)

      listed_is : E.held f ≢ back.held f → (clears B f || holds_mentioned m (E.held f)) ≡ true
      listed_is apart = go (is_in D f.node) refl
        where
          or-true : (y : Bool) → (y || true) ≡ true
          or-true true = refl
          or-true false = refl

          go : (z : Bool) → is_in D f.node ≡ z → (clears B f || holds_mentioned m (E.held f)) ≡ true
          go true e = ap (λ y. y || holds_mentioned m (E.held f)) ((b.clears_what_differs f).1 (is_known D f.node e, λ w. apart (sym w ∙ sym (held_old f e))))
          go false e =
              let h = held_left f e apart in
              ap (λ o. clears B f || holds_mentioned m o) h.1 ∙ ap (λ y. clears B f || y) (moved h.0 (left_apart f h.0 h.1 apart)) ∙ or-true (clears B f)

      embed_as : embed_register f (register_part m B f) (E.held f) ≡ cond (clears B f || holds_mentioned m (E.held f)) marked None
      embed_as = refl

      register_is : option_map (mark_back new) (step_register f m (E.held f) (back.held f)) ≡ embed_register f (register_part m B f) (E.held f)
      register_is = go (same_option same_node (E.held f) (back.held f)) refl
        where
          go : (z : Bool) → same_option same_node (E.held f) (back.held f) ≡ z → option_map (mark_back new) (step_register f m (E.held f) (back.held f)) ≡ embed_register f (register_part m B f) (E.held f)
          go true e =
              let same = same-held (E.held f) (back.held f) e in
              let row : mark_back new (record { field = f; before = E.held f; after = back.held f }) ≡ record { field = f; held = E.held f; how = Stay; clear = false; fill = None } =
              ap (λ y. cond y (record { field = f; held = E.held f; how = Stay; clear = false; fill = None }) (record { field = f; held = E.held f; how = cond (is_some (E.held f)) Leave Stay; clear = not (new f.node); fill = back.held f })) e in
              ap (λ y. option_map (mark_back new) (cond (not y || holds_mentioned m (E.held f)) (Some (record { field = f; before = E.held f; after = back.held f })) None)) e
              ∙ listed (holds_mentioned m (E.held f)) row
              ∙ sym (λ i. cond {A = Option RegMark} (unclear f same i || holds_mentioned m (E.held f))
              (Some (record { field = f; held = E.held f; how = how_stays f m same i; clear = unclear f same i; fill = (ap (comes_in (E.held f)) (fill_none f same) ∙ nobody_in (E.held f)) i })) None)
            where
              listed : (y : Bool) → {r : RegMark} → mark_back new (record { field = f; before = E.held f; after = back.held f }) ≡ r
                  → option_map (mark_back new) (cond y (Some (record { field = f; before = E.held f; after = back.held f })) None) ≡ cond y (Some r) None
              listed true q = ap Some q
              listed false q = refl
          go false e =
              let apart = apart_by e in
              let row : mark_back new (record { field = f; before = E.held f; after = back.held f }) ≡ record { field = f; held = E.held f; how = cond (is_some (E.held f)) Leave Stay; clear = not (new f.node); fill = back.held f } =
              ap (λ y. cond y (record { field = f; held = E.held f; how = Stay; clear = false; fill = None }) (record { field = f; held = E.held f; how = cond (is_some (E.held f)) Leave Stay; clear = not (new f.node); fill = back.held f })) e in
              ap (λ y. option_map (mark_back new) (cond (not y || holds_mentioned m (E.held f)) (Some (record { field = f; before = E.held f; after = back.held f })) None)) e
              ∙ ap Some row
              ∙ sym (ap (λ y. cond {A = Option RegMark} y marked None) (listed_is apart)
              ∙ (λ i. Some (record { field = f; held = E.held f; how = how_leaves f m apart i; clear = cleared_is apart i; fill = (ap (comes_in (E.held f)) (fill_is f apart) ∙ comes e) i })))

    -- ## Nodes that are nowhere

    loose_is : (n : NodeId) → step_loose m E back n ≡ embed_loose m E B n
    loose_is n = go (m n) (is_nowhere (E.place n)) refl (not (same_node n root))
      where
        how_is : is_nowhere (E.place n) ≡ true → cond (is_nowhere (place_back D E n)) Stay Leave ≡ how (put_of B n) To.Nowhere
        how_is e = at (put_of B n) (b.puts_what_differs n)
          where
            nowhere : (s : Spot) → is_nowhere s ≡ true → s ≡ Spot.Nowhere
            nowhere Spot.Nowhere q = refl
            nowhere (Spot.Row r c) q = cc
            nowhere (Spot.Register f) q = cc

            leads : (s : Spot) → s ≢ Spot.Nowhere → cond (is_nowhere s) Stay Leave ≡ cond (same_to (to_of s) To.Nowhere) Here Leave
            leads Spot.Nowhere q = absurd (q refl)
            leads (Spot.Row r c) q = refl
            leads (Spot.Register f) q = refl

            at : (o : Option To) → Told n o → cond (is_nowhere (place_back D E n)) Stay Leave ≡ how o To.Nowhere
            at None h = ap (λ s. cond (is_nowhere s) Stay Leave) h ∙ ap (λ y. cond y Stay Leave) e
            at (Some to) h = leads (place_back D E n) (λ q. h.0 (q ∙ sym (nowhere (E.place n) e))) ∙ ap (λ y. cond (same_to y To.Nowhere) Here Leave) (sym h.1)

        go : (a : Bool) → (z : Bool) → is_nowhere (E.place n) ≡ z → (y : Bool)
            → cond {A = Option Loose} (a && z && y) (Some (record { node = n; how = cond (is_nowhere (place_back D E n)) Stay Leave })) None ≡ cond (a && z && y) (Some (record { node = n; how = how (put_of B n) To.Nowhere })) None
        go true true e true = λ i. Some (record { node = n; how = how_is e i })
        go true true e false = refl
        go true false e y = refl
        go false z e y = refl

    -- ## All of it

    pub reverts : (base : Bool) → IsTrue base ↔ IsBaseInEffect E B → IsEmbedding E B (read_back new T rev under base)
    reverts base holds =
        let regs = listing-map field_cmp (λ (r : RegStep). r.field) (λ (r : RegMark). r.field) (mark_back new) same_field_name T.regs (map (mark_back new) T.regs) t.regs.rising refl in
        record {
          mentioned = m;
          which = λ n. (λ e. step_to_intent n ((t.which n).0 e), λ w. (t.which n).1 (intent_to_step n w));
          rev = sym b.rev_and_under.0;
          under = sym b.rev_and_under.1;
          base = holds;
          schema = sym b.nothing_new.3;
          need = record { rising = refl; at_each = λ n. sym (ap (λ l. cond {A = Option NodeId} (is_among l n) (Some n) None) b.nothing_new.2) };
          new = record { rising = refl; at_each = λ n. sym (no_node n) };
          rows = record { rising = t.rows.rising; at_each = λ n. t.rows.at_each n ∙ ap (row_marks n) (row_is n) };
          regs = record { rising = regs.rising; at_each = λ f. regs.at_each f ∙ ap (option_map (mark_back new)) (t.regs.at_each f) ∙ register_is f };
          loose = record { rising = t.loose.rising; at_each = λ n. t.loose.at_each n ∙ loose_is n };
        }
      where
        no_node : (n : NodeId) → new_node B n ≡ None
        no_node n = rw b.nothing_new.0 refl

        same_field_name : (r : RegStep) → (mark_back new r).field ≡ r.field
        same_field_name r = go (same_option same_node r.before r.after)
          where
            go : (z : Bool) → (cond {A = RegMark} z (record { field = r.field; held = r.before; how = Stay; clear = false; fill = None }) (record { field = r.field; held = r.before; how = cond (is_some r.before) Leave Stay; clear = not (new r.field.node); fill = r.after })).field ≡ r.field
            go true = refl
            go false = refl
