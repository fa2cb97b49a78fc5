-- The law of the kind of rows speaks of each row of the document between and of the later one.
use Rattle.std.proofs.Common.{◌≡◌, ◌≢◌, zero, Bool, true, false, ◌&&◌, ◌||◌, List, ◌∷◌, Option, Some, None, refl, sym, ap, ◌∙◌, subst, inl, inr, ◌⊎◌, is_none, IsSome}
use Rattle.st_ids.specs.Listing.{Has}
use Rattle.st_ids.proofs.Orders.{same_cell-itself}
use Rattle.st_ids.specs.declared.names.NodeId.{NodeId}
use Rattle.st_kind.specs.Named.{Nodes}
use Rattle.st_marks.specs.declared.intents.Intent.{Intent}
use Rattle.st_marks.specs.declared.places.Slot.{Slot}
use Rattle.st_marks.specs.declared.places.Spot.{Spot}
use Rattle.st_marks.specs.declared.steps.Step.{Step}
use Rattle.st_marks.specs.Document.{Document, NodeType, content, is_cell, slot}
use Rattle.st_marks.specs.Embedding.{row_part}
use Rattle.st_marks.specs.Extends.{IsExtendedBy, GainsItems, no_more, item_gained, item_kept}
use Rattle.st_marks.specs.Intent.{Fits}
use Rattle.st_marks.specs.Row.{SameCell, merge, step_row}
use Rattle.st_marks.specs.Step.{IsStep}
use Rattle.st_marks.proofs.Climb.{shown, stands}
use Rattle.st_marks.proofs.Members.{has-map, map-has}
use Rattle.st_rows.specs.Changes.{StandsIn}
use Rattle.st_rows.specs.Sequence.{RowCanHold, RowFits, RowKeeps, RowLeadsOver, ListsNew, cells_of, row_part_of}
use Rattle.st_rows.proofs.Documents.{part_fits}
use Rattle.st_moves.specs.Between.{between}
use Rattle.st_moves.specs.Carried.{row_between}
use Rattle.st_rows.proofs.GainedCells.{AllGained, gained_new}
use Rattle.st_moves.proofs.BetweenRows.{content_between}
use Rattle.st_marks.proofs.Unique.{distinct_content}
use Rattle.st_moves.proofs.BetweenSound.{between_sound, fits_between, mentions_between}
use Rattle.st_mention_laws.proofs.ClosedSets.{mentions_closed}
use Rattle.st_puts.specs.Mentions.{AreMentions}
use Rattle.st_rebase.specs.Rest.{rest_row}
use Rattle.st_rebase.proofs.Rest.{NamesRest, grow_between, rest_is_step, rest_names_moved}

-- one of the nodes that stands in the later row stands in the row between
stands_between : (m : NodeId → Bool) {c d : List Slot} (g : GainsItems SameCell c d) (n : NodeId) → m n ≡ true → StandsIn n d → StandsIn n (row_between m g)
stands_between m no_more n e w = w
stands_between m (item_gained {y = t} g) n e (inl w) = inl (w.0, (λ i. w.1 i && (ap m w.0 ∙ e) i))
stands_between m (item_gained {y = t} g) n e (inr w) = inr (stands_between m g n e w)
stands_between m (item_kept {x = s} {y = t} a g) n e (inl w) = inl (w.0, rw (ap m w.0 ∙ e) w.1)
stands_between m (item_kept a g) n e (inr w) = inr (stands_between m g n e w)

-- both have the same cells
same_cells : (m : NodeId → Bool) {c d : List Slot} (g : GainsItems SameCell c d) → cells_of (row_between m g) ≡ cells_of d
same_cells m no_more = refl
same_cells m (item_gained {y = t} g) = ap (λ l. t.cell ∷ l) (same_cells m g)
same_cells m (item_kept {y = t} a g) = ap (λ l. t.cell ∷ l) (same_cells m g)

module _ (D E : Document) (N : Intent) (x : IsExtendedBy D E) (f : Fits D N) (g : Fits E N) (S : Step) (step : IsStep D E S) (m : Nodes) (w : AreMentions E N m) where
  abbrev B : Document
  B = between m D E

  -- whom the rest of the step names: whom the step names, and the new nodes
  abbrev pub named_rest : NodeId → Bool
  named_rest n = step.mentioned n || is_none (D.nodes n)

  old_or_new : (n : NodeId) → IsSome (D.nodes n) ⊎ (is_none (D.nodes n) ≡ true)
  old_or_new n = go (D.nodes n) refl
    where
      go : (o : Option NodeType) → D.nodes n ≡ o → IsSome (D.nodes n) ⊎ (is_none (D.nodes n) ≡ true)
      go None e = inr (rw e refl)
      go (Some t) e = inl (rw e refl)

  or_true : (a b : Bool) → b ≡ true → (a || b) ≡ true
  or_true true b e = refl
  or_true false b e = e

  or_first : (a b : Bool) → a ≡ true → (a || b) ≡ true
  or_first a b e = rw e refl

  or_not : (a b : Bool) → b ≡ false → (a || b) ≡ a
  or_not true b e = refl
  or_not false b e = e

  not_none : (n : NodeId) → IsSome (D.nodes n) → is_none (D.nodes n) ≡ false
  not_none n h = go (D.nodes n) h
    where
      go : (o : Option NodeType) → IsSome o → is_none o ≡ false
      go None h = cc
      go (Some t) h = refl

  -- who stands elsewhere is named
  moved_named : (n : NodeId) → D.place n ≢ E.place n → named_rest n ≡ true
  moved_named n apart = elim (old_or_new n) [
    | inl h ↦ or_first (step.mentioned n) (is_none (D.nodes n)) ((step.which n).1 (n, (h, inl apart), zero, refl))
    | inr h ↦ or_true (step.mentioned n) (is_none (D.nodes n)) h
  ]

  full_there : (C : Document) (n : NodeId) (s : Slot) → Has (content C n) s → s.full ≡ true → Has (content C n) (record { cell = s.cell; node = s.node; full = true })
  full_there C n s h e = subst (λ (b : Bool). Has (content C n) (record { cell = s.cell; node = s.node; full = b })) e h

  -- a cell that isn't full where the other document has its owner there
  not_there : (C F : Document) (n : NodeId) (s t : Slot) → SameCell s t → F.place s.node ≡ Spot.Row n s.cell → Has (content C n) t → t.full ≡ false → C.place s.node ≡ F.place s.node → ⊥
  not_there C F n s t a e h k same =
      let o = has-map (slot C) (C.rows n) t h in
      let cell = ap (λ (u : Slot). u.cell) o.2 in
      let node = ap (λ (u : Slot). u.node) o.2 in
      false_true (sym k ∙ sym (ap (λ (u : Slot). u.full) o.2) ∙ (λ i. is_cell (cell i) (C.place (node i))) ∙ (λ i. is_cell (sym a.0 i) (C.place (sym a.1 i))) ∙ ap (is_cell s.cell) (same ∙ e) ∙ same_cell-itself s.cell)
    where
      false_true : false ≡ true → ⊥
      false_true q = cc

  names_rest : (n : NodeId) {c d : List Slot} (h : GainsItems SameCell c d) → ((s : Slot) → Has c s → Has (content D n) s) → ((t : Slot) → Has d t → Has (content E n) t)
      → AllGained (λ t. (Has (cells_of (content D n)) t.cell → ⊥) × Has (content E n) t) h → NamesRest step.mentioned named_rest h
  names_rest n no_more p q k = tt
  names_rest n (item_gained {y = t} h) p q k = (
    (λ e. moved_named t.node (λ same.
        let there = stands E x.after t.node n t.cell (full_there E n t k.0.1 e) in
        k.0.0 (in_cells n t (shown D x.before t.node n t.cell (same ∙ there))))),
    names_rest n h p (λ t i. q t (inr i)) k.1,
  )
    where
      in_cells : (n : NodeId) (t : Slot) → Has (content D n) (record { cell = t.cell; node = t.node; full = true }) → Has (cells_of (content D n)) t.cell
      in_cells n t i = map-has (λ (u : Slot). u.cell) (content D n) (record { cell = t.cell; node = t.node; full = true }) i
  names_rest n (item_kept {x = s} {y = t} a h) p q k = (
    (λ e j. ap named_rest (sym a.1) ∙ or_not (step.mentioned s.node) (is_none (D.nodes s.node)) (not_none s.node (owner s (p s (inl refl))))),
    (λ e j. ap named_rest (sym a.1) ∙ moved_named s.node (λ same. not_there E D n s t a (stands D x.before s.node n s.cell (full_there D n s (p s (inl refl)) e)) (q t (inl refl)) j (sym same))),
    (λ e j. moved_named t.node (λ same. not_there D E n t s (sym a.0, sym a.1) (stands E x.after t.node n t.cell (full_there E n t (q t (inl refl)) j)) (p s (inl refl)) e same)),
    names_rest n h (λ u i. p u (inr i)) (λ u i. q u (inr i)) k,
  )
    where
      owner : (u : Slot) → Has (content D n) u → IsSome (D.nodes u.node)
      owner u i = let o = has-map (slot D) (D.rows n) u i in subst (λ (v : Slot). IsSome (D.nodes v.node)) o.2 (x.before.cells_known n o.0 o.1).1

  module _ (new : List NodeId) (listed : ListsNew N new) (n : NodeId) where
    fits_there : RowFits (row_part_of m new N n) (content B n)
    fits_there = part_fits B N m new n (between_sound D E m x (mentions_closed E N m w)) (fits_between D E m N f g) listed (λ k i. (mentions_between D E m N x w (mentions_closed E N m w) k).1 i)

    fits_later : RowFits (row_part_of m new N n) (content E n)
    fits_later = part_fits E N m new n x.after g listed (λ k i. (w k).1 i)

    is_row : content B n ≡ row_between m (step.grows n)
    is_row = content_between D E m x n (step.grows n)

    keeps : RowKeeps (row_part m N n) (content B n) (content E n)
    keeps = record {
      stays = λ k e i. subst (StandsIn k) (sym is_row) (stands_between m (step.grows n) k e i);
      older = λ k a e i. subst (λ c. Has (cells_of c) a) (sym is_row) (subst (λ l. Has l a) (sym (same_cells m (step.grows n))) i);
    }

    rest_named : NamesRest step.mentioned named_rest (step.grows n)
    rest_named = names_rest n (step.grows n) (λ s i. i) (λ t i. i) (gained_new (step.grows n) (distinct_content E (E.rows n) (x.after.once n)))

    leads : RowLeadsOver named_rest (content B n) (content E n) (merge (rest_row m (step_row step.mentioned (step.grows n))))
    leads = subst (λ c. RowLeadsOver named_rest c (content E n) (merge (rest_row m (step_row step.mentioned (step.grows n))))) (sym is_row) (record {
      before = subst RowCanHold is_row fits_there.content;
      after = fits_later.content;
      step = record { grows = grow_between m (step.grows n); says = ap merge (rest_is_step m step.mentioned named_rest (step.grows n) rest_named) };
      moved = rest_names_moved m step.mentioned named_rest (step.grows n) rest_named;
    })

    -- what the kind's law of `rebase` asks of a row
    pub row_fits : RowFits (row_part_of m new N n) (content B n) × RowFits (row_part_of m new N n) (content E n) × RowKeeps (row_part m N n) (content B n) (content E n)
        × RowLeadsOver named_rest (content B n) (content E n) (merge (rest_row m (step_row step.mentioned (step.grows n))))
    row_fits = (fits_there, fits_later, keeps, leads)
