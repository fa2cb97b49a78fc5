-- The way back, directly after the document that it leads back from: it is sound there, and shows the earlier tree.
use Rattle.std.proofs.Common.{◌≡◌, ◌↔◌, ℕ, zero, suc, Bool, true, false, cond, List, [], ◌∷◌, ◌++◌, map, Option, Some, None, IsSome, refl, sym, ap, ◌∙◌, subst, inl, inr, option_and_then}
use Rattle.std.specs.Option.{option_map_or}
use Rattle.serde_json.specs.Data.{Data}
use Rattle.st_ids.specs.Listing.{AreDistinct, Has}
use Rattle.st_ids.specs.Root.{root}
use Rattle.st_ids.specs.declared.names.CellId.{CellId}
use Rattle.st_ids.specs.declared.names.NodeId.{NodeId}
use Rattle.st_ids.specs.declared.names.Rev.{Rev}
use Rattle.st_lemmas.proofs.Bools.{true-false}
use Rattle.st_lemmas.proofs.Options.{one_some}
use Rattle.st_marks.specs.declared.intents.Intent.{Intent}
use Rattle.st_marks.specs.declared.intents.Owned.{Owned}
use Rattle.st_marks.specs.declared.places.Spot.{Spot}
use Rattle.st_marks.specs.declared.verdicts.Verdict.{Verdict}
use Rattle.st_marks.specs.Back.{IsBack, is_in, place_back, retreat}
use Rattle.st_marks.specs.CarryOut.{full}
use Rattle.st_marks.specs.Document.{Document, IsAncestor, IsSoundInForm, NodeType, above, climb, is_cell, node_of, revs, slot}
use Rattle.st_marks.specs.Extends.{IsExtendedBy, no_more, item_gained, item_kept}
use Rattle.st_marks.specs.LiveTree.{IsTreeText, Shows, owners_shown}
use Rattle.st_marks.specs.Verdict.{HasBase, IsVerdict}
use Rattle.st_marks.proofs.Climb.{is_cell-true}
use Rattle.st_marks.proofs.Later.{has_later}
use Rattle.st_marks.proofs.Members.{all-has}
use Rattle.st_marks.proofs.NewRows.{KeepsOrder}
use Rattle.st_marks.proofs.Retreat.{back_old, retreat_sound}
use Rattle.st_marks.proofs.WayBack.{leads_back}
use Rattle.st_schema_laws.specs.Alike.{AreAlikeAt}
use Rattle.st_schema_laws.proofs.Alike.{same_below}
use Rattle.st_schema_laws.proofs.Beneath.{not_round}

module _ (D E : Document) (x : IsExtendedBy D E) where
  -- the document after the way back: the retreat, but for the schemas
  abbrev R : Document
  R = record (retreat D E) { schemas = E.schemas }

  after_sound : IsSoundInForm R
  after_sound =
      let s = retreat_sound D E x in
      record {
        root_known = s.root_known;
        root_nowhere = s.root_nowhere;
        one_row = s.one_row;
        once = s.once;
        short = s.short;
        own_cell = s.own_cell;
        one_held = s.one_held;
        cells_known = s.cells_known;
        held_known = s.held_known;
        register_key = s.register_key;
        no_ring = s.no_ring;
        in_effect = x.after.in_effect;
      }

  -- ## It is sound

  module _ (rev under : Rev) (B : Intent) (b : IsBack D E rev under B) where
    pub sound_after : Has (revs E.schemas) under → IsVerdict E B Verdict.Sound
    sound_after h = (
      subst (λ s. HasBase E.schemas s B.under) (sym b.nothing_new.3) (subst (Has (revs E.schemas)) (sym b.rev_and_under.1) h),
      λ m u. subst (λ ns. Has ns m) b.nothing_new.2 u.0,
      λ n a. (let c = subst (λ F. IsAncestor F n n) (leads_back D E x rev under B b) a.1 in not_round (above R) c.0 n (after_sound.no_ring n) c.1),
    )

  -- ## What a row of an old node shows

  -- a place in the row of an old node is that of an old node
  old_there : (n m : NodeId) (c : CellId) → is_in D n ≡ true → place_back D E m ≡ Spot.Row n c → D.place m ≡ Spot.Row n c
  old_there n m c old e = pick (is_in D m) refl (option_map_or (is_in D) (node_of (E.place m)) false) refl
    where
      pick : (t : Bool) → is_in D m ≡ t → (u : Bool) → option_map_or (is_in D) (node_of (E.place m)) false ≡ u → D.place m ≡ Spot.Row n c
      pick true p u q = sym (back_old D E x m p) ∙ e
      pick false p true q =
          let out : place_back D E m ≡ Spot.Nowhere = rw (p, q) refl in
          let bad : Spot.Nowhere ≡ Spot.Row n c = sym out ∙ e in
          cc
      pick false p false q =
          let stays : place_back D E m ≡ E.place m = rw (p, q) refl in
          let at : E.place m ≡ Spot.Row n c = sym stays ∙ e in
          absurd (true-false (ap (λ s. option_map_or (is_in D) (node_of s) false) at ∙ old) q)

  -- a cell that the row gained is empty
  gained_empty : (n : NodeId) (o : Owned) → is_in D n ≡ true → Has (E.rows n) o → (Has (D.rows n) o → ⊥) → is_cell o.cell (place_back D E o.node) ≡ false
  gained_empty n o old there fresh = go (is_cell o.cell (place_back D E o.node)) refl
    where
      go : (t : Bool) → is_cell o.cell (place_back D E o.node) ≡ t → is_cell o.cell (place_back D E o.node) ≡ false
      go false e = e
      go true e =
          let s = is_cell-true o.cell (place_back D E o.node) e in
          let here : E.row_of o.cell ≡ Some s.0 = (x.after.one_row o.cell s.0).1 (o.node, (retreat_sound D E x).own_cell o.node s.0 o.cell s.1) in
          let row : E.row_of o.cell ≡ Some n = (x.after.one_row o.cell n).1 (o.node, there) in
          let same : s.0 ≡ n = one_some s.0 n (sym here ∙ row) in
          absurd (fresh (x.before.own_cell o.node n o.cell (old_there n o.node o.cell old (s.1 ∙ ap (λ r. Spot.Row r o.cell) same))))

  -- of a row and the row that it grew to: what is old in the rest of the later one is in the rest of the earlier one
  row_shown : (n : NodeId) → is_in D n ≡ true → {os ps : List Owned} → KeepsOrder os ps → AreDistinct (λ (o : Owned). o.cell) ps
      → ((o : Owned) → Has ps o → Has (E.rows n) o) → ((o : Owned) → Has os o → Has (D.rows n) o) → ((o : Owned) → Has (D.rows n) o → Has ps o → Has os o)
      → owners_shown (map (slot R) ps) ≡ owners_shown (map (slot D) os)
  row_shown n old no_more once later before rest = refl
  row_shown n old (item_gained {y} {xs = os} {ys = ps} g) once later before rest =
      let empty : is_cell y.cell (place_back D E y.node) ≡ false = gained_empty n y old (later y (inl refl)) (λ h. all-has (λ (o : Owned). o.cell ≡ y.cell → ⊥) ps y once.0 (has_later g y (rest y h (inl refl))) refl) in
      ap (λ t. cond t (y.node ∷ []) [] ++ owners_shown (map (slot R) ps)) empty
      ∙ row_shown n old g once.1 (λ o h. later o (inr h)) before (λ o h k. rest o h (inr k))
  row_shown n old (item_kept {x = w} {y = z} {xs = os} {ys = ps} same g) once later before rest =
      let known : is_in D w.node ≡ true = (x.before.cells_known n w (before w (inl refl))).1 in
      let full : is_cell z.cell (place_back D E z.node) ≡ is_cell w.cell (D.place w.node) = ap (λ (o : Owned). is_cell o.cell (place_back D E o.node)) (sym same) ∙ ap (is_cell w.cell) (back_old D E x w.node known) in
      ap (λ t. cond t (z.node ∷ []) [] ++ owners_shown (map (slot R) ps)) full
      ∙ ap (λ (o : Owned). cond (is_cell w.cell (D.place w.node)) (o.node ∷ []) [] ++ owners_shown (map (slot R) ps)) (sym same)
      ∙ ap (λ l. cond (is_cell w.cell (D.place w.node)) (w.node ∷ []) [] ++ l)
      (row_shown n old g once.1 (λ o h. later o (inr h)) (λ o h. before o (inr h))
      (λ o h k. elim (rest o h (inr k)) [
        | inl q ↦ absurd (all-has (λ (p : Owned). p.cell ≡ z.cell → ⊥) ps o once.0 k (ap (λ (p : Owned). p.cell) (sym q ∙ same)))
        | inr m ↦ m
      ]))

  -- ## Both show the same

  alike_at : (n : NodeId) → is_in D n ≡ true → AreAlikeAt D R n
  alike_at n old = record {
    node = λ t p. x.nodes n t p;
    row = row_shown n old (x.rows n) (x.after.once n) (λ o h. h) (λ o h. h) (λ o h k. h);
    held = λ k. rw old refl;
  }

  -- what the root leads to after the way back was there before
  from_old : (k : ℕ) (n : NodeId) → climb (above R) k n ≡ Some root → is_in D n ≡ true
  from_old zero n e = subst (λ m. is_in D m ≡ true) (sym (one_some n root e)) x.before.root_known
  from_old (suc k) n e = go (is_in D n) refl (node_of (place_back D E n)) refl e (λ m f. from_old k m f)
    where
      out : (m : NodeId) → is_in D n ≡ false → node_of (place_back D E n) ≡ Some m → is_in D m ≡ true → ⊥
      out m new up old = pick (option_map_or (is_in D) (node_of (E.place n)) false) refl
        where
          pick : (u : Bool) → option_map_or (is_in D) (node_of (E.place n)) false ≡ u → ⊥
          pick true q =
              let none : node_of (place_back D E n) ≡ None = rw (new, q) refl in
              let bad : None ≡ Some m = sym none ∙ up in
              cc
          pick false q =
              let stays : node_of (place_back D E n) ≡ node_of (E.place n) = rw (new, q) refl in
              true-false (ap (λ o. option_map_or (is_in D) o false) (sym stays ∙ up) ∙ old) q

      go : (t : Bool) → is_in D n ≡ t → (o : Option NodeId) → node_of (place_back D E n) ≡ o → option_and_then (climb (above R) k) o ≡ Some root → ((m : NodeId) → climb (above R) k m ≡ Some root → is_in D m ≡ true) → is_in D n ≡ true
      go true p o up e on = p
      go false p None up e on = let bad : None ≡ Some root = e in cc
      go false p (Some m) up e on = absurd (out m p up (on m e))

  same_node : (n : NodeId) (t : NodeType) → is_in D n ≡ true → E.nodes n ≡ Some t → D.nodes n ≡ Some t
  same_node n t old e = go (D.nodes n) refl old
    where
      go : (o : Option NodeType) → D.nodes n ≡ o → IsSome o → D.nodes n ≡ Some t
      go None p h = cc
      go (Some u) p h = p ∙ sym (x.nodes n u p) ∙ e

  shown_again : (is_array : List ℕ → Bool) (d : Data) → Shows is_array D root d → Shows is_array R root d
  shown_again is_array d s = same_below is_array D R x.before root d (λ n h w. alike_at n h) s

  shown_before : (is_array : List ℕ → Bool) (d : Data) → Shows is_array R root d → Shows is_array D root d
  shown_before is_array d s = same_below is_array R D after_sound root d (λ n h w.
      let old = from_old w.0 n w.1 in
      let a = alike_at n old in
      record { node = λ t p. same_node n t old p; row = sym a.row; held = λ k. sym (a.held k) }) s

  module _ (rev under : Rev) (B : Intent) (b : IsBack D E rev under B) where
    pub same_tree : (is_array : List ℕ → Bool) (d : Data) → Shows is_array D root d ↔ Shows is_array (full E B) root d
    same_tree is_array d = (
      λ s. subst (λ F. Shows is_array F root d) (sym (leads_back D E x rev under B b)) (shown_again is_array d s),
      λ s. shown_before is_array d (subst (λ F. Shows is_array F root d) (leads_back D E x rev under B b) s),
    )

    pub same_text : (is_array : List ℕ → Bool) (text : List ℕ) → IsTreeText is_array D text ↔ IsTreeText is_array (full E B) text
    same_text is_array text = (
      λ t. (t.0, (same_tree is_array t.0).0 t.1, t.2),
      λ t. (t.0, (same_tree is_array t.0).1 t.1, t.2),
    )
