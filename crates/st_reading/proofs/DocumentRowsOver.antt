-- What a change says of the rows of a later document, with empty cells counted, by what it and the step say of the earlier one.
use Rattle.std.proofs.Common.{◌≡◌, ◌≢◌, Bool, true, false, List, [], ◌∷◌, map, Option, Some, None, refl, sym, ap, ◌∙◌, subst, inl, inr, ◌⊎◌, ◌↔◌, is_some, IsSome, IfSome}
use Rattle.st_ids.specs.Listing.{AreDistinct, Has}
use Rattle.st_ids.specs.declared.names.CellId.{CellId}
use Rattle.st_ids.specs.declared.names.NodeId.{NodeId}
use Rattle.st_kind.specs.Named.{Nodes}
use Rattle.st_marks.specs.declared.changes.Change.{Change}
use Rattle.st_marks.specs.declared.intents.Group.{Group}
use Rattle.st_marks.specs.declared.intents.Intent.{Intent}
use Rattle.st_marks.specs.declared.intents.Owned.{Owned}
use Rattle.st_marks.specs.declared.places.Slot.{Slot}
use Rattle.st_marks.specs.declared.steps.Step.{Step}
use Rattle.st_marks.specs.Document.{Document, content, owned_cell, slot}
use Rattle.st_marks.specs.Embedding.{IsEmbedding, IsMentionedByIntent, row_part}
use Rattle.st_marks.specs.Extends.{IsExtendedBy, GainsItems, no_more, item_gained, item_kept}
use Rattle.st_marks.specs.Intent.{Fits, IsKnown, group_at, put_of}
use Rattle.st_marks.specs.Row.{CellMark, SameCell, embed_row, step_row}
use Rattle.st_marks.specs.Step.{IsStep}
use Rattle.st_marks.proofs.Lookups.{group_at-group}
use Rattle.st_marks.proofs.Members.{all-has, has-all, has-map}
use Rattle.st_mention_laws.proofs.Mentions.{IsCovered, covers}
use Rattle.st_rows.proofs.GainedCells.{AllGained, weaker, gained_new, cell_there}
use Rattle.st_rows.specs.Changes.{NoGroupAtGained}
use Rattle.st_rows.specs.Sequence.{cells_of}
use Rattle.st_reading.specs.Over.{AreCovered, over_row}
use Rattle.st_reading.specs.Pieces.{AreAlike}
use Rattle.st_read_laws.specs.Reading.{read}
use Rattle.st_reading.proofs.RowsOver.{shown_row_over}

-- ## Cells that are gained weren't there. `st_agree_laws` and `st_moves` have these; the crate then stands on those.

pub slots_once : (D : Document) (os : List Owned) → AreDistinct (λ (o : Owned). o.cell) os → AreDistinct (λ (s : Slot). s.cell) (map (slot D) os)
slots_once D [] h = tt
slots_once D (o ∷ os) h = (has-all (λ (s : Slot). s.cell ≢ o.cell) (map (slot D) os) (λ s w e. let r = has-map (slot D) os s w in all-has (λ (p : Owned). p.cell ≢ o.cell) os r.0 h.0 r.1 (ap (λ (t : Slot). t.cell) r.2 ∙ e)), slots_once D os h.1)

-- ## The rows of a change

module _ (D E : Document) (N : Intent) (x : IsExtendedBy D E) (f : Fits D N) (g : Fits E N) where
  -- a group stands at a cell that was there
  group_there : (n : NodeId) (a : CellId) → (Has (cells_of (content D n)) a → ⊥) → group_at N n (Some a) ≡ []
  group_there n a free = go (group_at N n (Some a)) refl
    where
      go : (os : List Owned) → group_at N n (Some a) ≡ os → group_at N n (Some a) ≡ []
      go [] e = e
      go (o ∷ os) e =
          let r = group_at-group N n (Some a) o (subst (λ l. Has l o) (sym e) (inl refl)) in
          let known = (all-has (λ (k : Group). IsKnown D N k.node × IfSome k.after (λ c. D.row_of c ≡ Some k.node)) N.groups r.group f.groups_known r.listed).1 in
          let row : D.row_of a ≡ Some n = subst (λ (c : Option CellId). IfSome c (λ b. D.row_of b ≡ Some r.group.node)) r.after known ∙ ap (λ (k : NodeId). Some k) r.node in
          let there = (x.before.one_row a n).0 row in
          absurd (free (cell_there D n (owned_cell a there.0) there.1))

  no_group_at : (m : Nodes) (n : NodeId) {c d : List Slot} (h : GainsItems SameCell c d) → AllGained (λ t. (Has (cells_of (content D n)) t.cell → ⊥)) h → NoGroupAtGained (row_part m N n) h
  no_group_at m n no_more k = tt
  no_group_at m n (item_gained {y = t} h) k = (group_there n t.cell k.0, no_group_at m n h k.1)
  no_group_at m n (item_kept a h) k = no_group_at m n h k

  pub groups_are_old : (m : Nodes) (n : NodeId) (h : GainsItems SameCell (content D n) (content E n)) → NoGroupAtGained (row_part m N n) h
  groups_are_old m n h =
      no_group_at m n h (weaker (λ t. (Has (cells_of (content D n)) t.cell → ⊥) × Has (content E n) t) (λ t. (Has (cells_of (content D n)) t.cell → ⊥)) (λ t p. p.0) h (gained_new h (slots_once E (E.rows n) (x.after.once n))))

  module _ (C : Change) (S : Step) (emb : IsEmbedding D N C) (step : IsStep D E S) (m : Nodes) (w : (n : NodeId) → (m n ≡ true) ↔ IsMentionedByIntent E N n) where
    covered_in : {c d : List Slot} (h : GainsItems SameCell c d) → ((s : Slot) → Has c s → IsSome (D.nodes s.node)) → AreCovered m emb.mentioned step.mentioned h
    covered_in no_more old = tt
    covered_in (item_gained h) old = covered_in h old
    covered_in (item_kept {x = s} a h) old = ((λ p q e. told (covers D E N x f g s.node ((w s.node).0 e))), covered_in h (λ t i. old t (inr i)))
      where
        unknown : D.nodes s.node ≡ None → IsSome (D.nodes s.node) → ⊥
        unknown e k = let q : ◌≡◌ {A = Bool} false true = sym (ap is_some e) ∙ k in cc

        told : IsCovered D E N s.node → (emb.mentioned s.node ≡ true) ⊎ (step.mentioned s.node ≡ true)
        told (inl k) = inl ((emb.which s.node).1 k)
        told (inr (inl k)) = inr ((step.which s.node).1 k)
        told (inr (inr k)) = absurd (unknown k (old s (inl refl)))

    old_owner : (n : NodeId) (s : Slot) → Has (content D n) s → IsSome (D.nodes s.node)
    old_owner n s i = let o = has-map (slot D) (D.rows n) s i in subst (λ (t : Slot). IsSome (D.nodes t.node)) o.2 (x.before.cells_known n o.0 o.1).1

    -- what is alike with the change's and the step's rows comes to the change's row in the later document
    pub rows_over : (l : Bool) (n : NodeId) (xs ys : List CellMark) → AreAlike l xs (embed_row (row_part emb.mentioned N n) (content D n)) → AreAlike l ys (step_row step.mentioned (step.grows n))
        → over_row l (put_of N) m xs ys ≡ map (read l) (embed_row (row_part m N n) (content E n))
    rows_over l n xs ys a b =
        let new = gained_new (step.grows n) (slots_once E (E.rows n) (x.after.once n)) in
        shown_row_over l (row_part m N n) emb.mentioned step.mentioned (step.grows n) xs ys
        (no_group_at m n (step.grows n) (weaker (λ t. (Has (cells_of (content D n)) t.cell → ⊥) × Has (content E n) t) (λ t. (Has (cells_of (content D n)) t.cell → ⊥)) (λ t p. p.0) (step.grows n) new))
        (covered_in (step.grows n) (old_owner n))
        a b
