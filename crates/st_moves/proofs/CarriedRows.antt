-- What a change says of the rows of the document between, by what it and the step say of the earlier one.
use Rattle.std.proofs.Common.{◌≡◌, Bool, true, false, List, [], ◌∷◌, Option, Some, None, refl, sym, ap, ◌∙◌, subst, inl, inr, ◌⊎◌, ◌↔◌, is_some, IsSome, IfSome}
use Rattle.st_ids.specs.Listing.{Has}
use Rattle.st_ids.specs.declared.names.CellId.{CellId}
use Rattle.st_ids.specs.declared.names.NodeId.{NodeId}
use Rattle.st_marks.specs.declared.changes.Change.{Change}
use Rattle.st_marks.specs.declared.intents.Group.{Group}
use Rattle.st_marks.specs.declared.intents.Intent.{Intent}
use Rattle.st_marks.specs.declared.intents.Owned.{Owned}
use Rattle.st_marks.specs.declared.places.Slot.{Slot}
use Rattle.st_marks.specs.declared.steps.Step.{Step}
use Rattle.st_marks.specs.Document.{Document, content, owned_cell, slot}
use Rattle.st_marks.specs.Embedding.{IsEmbedding, IsMentionedByIntent, row_part}
use Rattle.st_marks.specs.Extends.{IsExtendedBy, GainsItems, no_more, item_gained, item_kept}
use Rattle.st_marks.specs.Intent.{Fits, IsKnown, group_at, put_of}
use Rattle.st_marks.specs.Row.{SameCell, embed_row, step_row}
use Rattle.st_marks.specs.Step.{IsStep}
use Rattle.st_marks.proofs.Lookups.{group_at-group}
use Rattle.st_marks.proofs.Members.{all-has, has-map}
use Rattle.st_rows.specs.Sequence.{cells_of}
use Rattle.st_moves.specs.Between.{between}
use Rattle.st_moves.specs.Carried.{carry_row, AreCovered}
use Rattle.st_rows.proofs.GainedCells.{AllGained, gained_new}
use Rattle.st_moves.proofs.BetweenRows.{content_between}
use Rattle.st_rows.proofs.GainedCells.{cell_there}
use Rattle.st_marks.proofs.Unique.{distinct_content}
use Rattle.st_moves.proofs.CarriedRow.{NoGroupAtGained, carry_row-embed_row}
use Rattle.st_mention_laws.proofs.Mentions.{IsCovered, covers}

module _ (D E : Document) (N : Intent) (x : IsExtendedBy D E) (f : Fits D N) (g : Fits E N) where
  -- a group stands at a cell that was there
  group_there : (n : NodeId) (a : CellId) → (Has (cells_of (content D n)) a → ⊥) → group_at N n (Some a) ≡ []
  group_there n a free = go (group_at N n (Some a)) refl
    where
      go : (os : List Owned) → group_at N n (Some a) ≡ os → group_at N n (Some a) ≡ []
      go [] e = e
      go (o ∷ os) e =
          let r = group_at-group N n (Some a) o (subst (λ l. Has l o) (sym e) (inl refl)) in
          let known = (all-has (λ (k : Group). IsKnown D N k.node × IfSome k.after (λ c. D.row_of c ≡ Some k.node)) N.groups r.group f.groups_known r.listed).1 in
          let row : D.row_of a ≡ Some n = subst (λ (c : Option CellId). IfSome c (λ b. D.row_of b ≡ Some r.group.node)) r.after known ∙ ap (λ (k : NodeId). Some k) r.node in
          let there = (x.before.one_row a n).0 row in
          absurd (free (cell_there D n (owned_cell a there.0) there.1))

  no_group_at : (m : NodeId → Bool) (n : NodeId) {c d : List Slot} (h : GainsItems SameCell c d) → AllGained (λ t. (Has (cells_of (content D n)) t.cell → ⊥)) h → NoGroupAtGained (row_part m N n) h
  no_group_at m n no_more k = tt
  no_group_at m n (item_gained {y = t} h) k = (group_there n t.cell k.0, no_group_at m n h k.1)
  no_group_at m n (item_kept a h) k = no_group_at m n h k

  only_new : {c d : List Slot} (h : GainsItems SameCell c d) → (P Q : Slot → Type 0) → AllGained (λ t. P t × Q t) h → AllGained P h
  only_new no_more P Q k = tt
  only_new (item_gained h) P Q k = (k.0.0, only_new h P Q k.1)
  only_new (item_kept a h) P Q k = only_new h P Q k

  module _ (C : Change) (S : Step) (emb : IsEmbedding D N C) (step : IsStep D E S) (m : NodeId → Bool) (w : (n : NodeId) → (m n ≡ true) ↔ IsMentionedByIntent E N n) where
    covered_in : {c d : List Slot} (h : GainsItems SameCell c d) → ((s : Slot) → Has c s → IsSome (D.nodes s.node)) → AreCovered m emb.mentioned step.mentioned h
    covered_in no_more old = tt
    covered_in (item_gained h) old = covered_in h old
    covered_in (item_kept {x = s} a h) old = ((λ p q e. told (covers D E N x f g s.node ((w s.node).0 e))), covered_in h (λ t i. old t (inr i)))
      where
        unknown : D.nodes s.node ≡ None → IsSome (D.nodes s.node) → ⊥
        unknown e k = let q : ◌≡◌ {A = Bool} false true = sym (ap is_some e) ∙ k in cc

        told : IsCovered D E N s.node → (emb.mentioned s.node ≡ true) ⊎ (step.mentioned s.node ≡ true)
        told (inl k) = inl ((emb.which s.node).1 k)
        told (inr (inl k)) = inr ((step.which s.node).1 k)
        told (inr (inr k)) = absurd (unknown k (old s (inl refl)))

    old_owner : (n : NodeId) (s : Slot) → Has (content D n) s → IsSome (D.nodes s.node)
    old_owner n s i = let o = has-map (slot D) (D.rows n) s i in subst (λ (t : Slot). IsSome (D.nodes t.node)) o.2 (x.before.cells_known n o.0 o.1).1

    -- the rows of the change between are the change's and the step's rows, laid side by side
    pub carried_rows : (n : NodeId)
        → carry_row (put_of N) m (embed_row (row_part emb.mentioned N n) (content D n)) (step_row step.mentioned (step.grows n))
        ≡ embed_row (row_part m N n) (content (between m D E) n)
    carried_rows n =
        let new = gained_new (step.grows n) (distinct_content E (E.rows n) (x.after.once n)) in
        carry_row-embed_row (row_part m N n) emb.mentioned step.mentioned (step.grows n)
        (no_group_at m n (step.grows n) (only_new (step.grows n) (λ t. (Has (cells_of (content D n)) t.cell → ⊥)) (λ t. Has (content E n) t) new))
        (covered_in (step.grows n) (old_owner n))
        ∙ ap (embed_row (row_part m N n)) (sym (content_between D E m x n (step.grows n)))
