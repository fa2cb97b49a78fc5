-- The nodes that marks put are those that the intent puts, as far as they stand in rows and registers after it.
use Rattle.std.proofs.Common.{◌≡◌, Bool, true, false, List, [], ◌∷◌, ◌++◌, Option, Some, None, cond, refl, sym, ap, ◌∙◌, subst, inl, inr, ◌⊎◌, IsSome}
use Rattle.std.specs.List.{flat_map}
use Rattle.st_ids.specs.Listing.{Has}
use Rattle.st_ids.specs.declared.names.CellId.{CellId}
use Rattle.st_ids.specs.declared.names.NodeId.{NodeId}
use Rattle.st_marks.specs.declared.intents.Owned.{Owned}
use Rattle.st_marks.specs.declared.intents.To.{To}
use Rattle.st_marks.specs.declared.marks.How.TheVariants.{Here, Leave}
use Rattle.st_marks.specs.declared.places.Slot.{Slot}
use Rattle.st_marks.specs.How.{is_here}
use Rattle.st_marks.specs.Row.{CellMark, Counted, Gap, Touch, Make, Fill, RowPart, embed_cell, embed_cells, embed_made, embed_row, how}
use Rattle.st_marks.proofs.Members.{append_left, append_right, has-append}
use Rattle.st_rows.specs.Changes.{carried_cells, carried_row, full_after, made_cells}
use Rattle.st_void.specs.inside.Puts.{put_by}
use Rattle.st_void.proofs.ShownInRows.{IsIn, IsMentionedIn, full_cell}

here_is_some : (o : Option To) (t : To) → is_here (how o t) ≡ true → IsSome o
here_is_some None t e = cc
here_is_some (Some to) t e = refl

module _ (p : RowPart) (n : NodeId) where
  -- ## Whom marks put

  by_cell : (a : CellId) (m : NodeId) (b : Bool) → Has (put_by (embed_cell p a m b)) n → IsSome (p.target_of n)
  by_cell a m true h = go (p.mentioned m) h
    where
      put : (b : Bool) → is_here (how (p.target_of m) (To.Cell a)) ≡ b → Has (cond b (m ∷ []) []) n → IsSome (p.target_of n)
      put true e (inl q) = subst (λ k. IsSome (p.target_of k)) q (here_is_some (p.target_of m) (To.Cell a) e)
      put true e (inr q) = absurd q
      put false e h = absurd h

      go : (b : Bool) → Has (put_by (cond b (Touch a m (how (p.target_of m) (To.Cell a))) Counted)) n → IsSome (p.target_of n)
      go true h = put (is_here (how (p.target_of m) (To.Cell a))) refl h
      go false h = absurd h
  by_cell a m false h = put (is_here (how (p.target_of m) (To.Cell a))) refl h
    where
      put : (b : Bool) → is_here (how (p.target_of m) (To.Cell a)) ≡ b → Has (put_by (cond b (Fill a m) (Gap a))) n → IsSome (p.target_of n)
      put true e (inl q) = subst (λ k. IsSome (p.target_of k)) q (here_is_some (p.target_of m) (To.Cell a) e)
      put true e (inr q) = absurd q
      put false e h = absurd h

  by_made : (os : List Owned) (xs : List CellMark) → Has (flat_map put_by (embed_made p os ++ xs)) n → IsSome (p.target_of n) ⊎ Has (flat_map put_by xs) n
  by_made [] xs h = inr h
  by_made (o ∷ os) xs h = elim (has-append (put_by (Make o.cell o.node (is_here (how (p.target_of o.node) (To.Cell o.cell))))) (flat_map put_by (embed_made p os ++ xs)) n h) [
    | inl w ↦ inl (put (is_here (how (p.target_of o.node) (To.Cell o.cell))) refl w)
    | inr w ↦ by_made os xs w
  ]
    where
      put : (b : Bool) → is_here (how (p.target_of o.node) (To.Cell o.cell)) ≡ b → Has (cond b (o.node ∷ []) []) n → IsSome (p.target_of n)
      put true e (inl q) = subst (λ k. IsSome (p.target_of k)) q (here_is_some (p.target_of o.node) (To.Cell o.cell) e)
      put true e (inr q) = absurd q
      put false e h = absurd h

  by_cells : (c : List Slot) → Has (flat_map put_by (embed_cells p c)) n → IsSome (p.target_of n)
  by_cells [] h = absurd h
  by_cells (s ∷ c) h = elim (has-append (put_by (embed_cell p s.cell s.node s.full)) (flat_map put_by (embed_made p (p.new_cells (Some s.cell)) ++ embed_cells p c)) n h) [
    | inl w ↦ by_cell s.cell s.node s.full w
    | inr w ↦ elim (by_made (p.new_cells (Some s.cell)) (embed_cells p c) w) [ inl k ↦ k | inr k ↦ by_cells c k ]
  ]

  pub by_row : (c : List Slot) → Has (flat_map put_by (embed_row p c)) n → IsSome (p.target_of n)
  by_row c h = elim (by_made (p.new_cells None) (embed_cells p c) h) [ inl k ↦ k | inr k ↦ by_cells c k ]

  -- ## Who is put and is in the row after is told

  on_cell : (a : CellId) (b : Bool) → (b ≡ true → p.mentioned n ≡ true) → IsSome (p.target_of n) → full_after (p.target_of n) a b ≡ true → Has (put_by (embed_cell p a n b)) n
  on_cell a true k some e = subst (λ z. Has (put_by (cond z (Touch a n (how (p.target_of n) (To.Cell a))) Counted)) n) (sym (k refl)) (go (p.target_of n) some e)
    where
      go : (o : Option To) → IsSome o → full_after o a true ≡ true → Has (put_by (Touch a n (how o (To.Cell a)))) n
      go None some e = absurd (let bad : false ≡ true = some in cc)
      go (Some to) some e = subst (λ z. Has (put_by (Touch a n (cond z Here Leave))) n) (sym e) (inl refl)
  on_cell a false k some e = go (p.target_of n) some e
    where
      go : (o : Option To) → IsSome o → full_after o a false ≡ true → Has (put_by (cond (is_here (how o (To.Cell a))) (Fill a n) (Gap a))) n
      go None some e = cc
      go (Some to) some e = subst (λ z. Has (put_by (cond (is_here (cond z Here Leave)) (Fill a n) (Gap a))) n) (sym e) (inl refl)

  on_made : (os : List Owned) (xs : List CellMark) (a : CellId) → Has (made_cells p os) (full_cell a n) → Has (flat_map put_by (embed_made p os ++ xs)) n
  on_made [] xs a h = absurd h
  on_made (o ∷ os) xs a (inl e) = append_left (put_by (Make o.cell o.node (is_here (how (p.target_of o.node) (To.Cell o.cell))))) (flat_map put_by (embed_made p os ++ xs)) n (subst (λ (t : Slot). Has (cond t.full (t.node ∷ []) []) n) (sym e) (inl refl))
  on_made (o ∷ os) xs a (inr h) = append_right (put_by (Make o.cell o.node (is_here (how (p.target_of o.node) (To.Cell o.cell))))) (flat_map put_by (embed_made p os ++ xs)) n (on_made os xs a h)

  behind_made : (os : List Owned) (xs : List CellMark) → Has (flat_map put_by xs) n → Has (flat_map put_by (embed_made p os ++ xs)) n
  behind_made [] xs h = h
  behind_made (o ∷ os) xs h = append_right (put_by (Make o.cell o.node (is_here (how (p.target_of o.node) (To.Cell o.cell))))) (flat_map put_by (embed_made p os ++ xs)) n (behind_made os xs h)

  on_cells : (c : List Slot) (a : CellId) → IsSome (p.target_of n) → IsMentionedIn p n c → Has (carried_cells p c) (full_cell a n) → Has (flat_map put_by (embed_cells p c)) n
  on_cells [] a some k h = absurd h
  on_cells (s ∷ c) a some k (inl e) =
      let node : s.node ≡ n = ap (λ (t : Slot). t.node) e in
      let full : full_after (p.target_of n) s.cell s.full ≡ true = (λ i. full_after (p.target_of (sym node i)) s.cell s.full) ∙ ap (λ (t : Slot). t.full) e in
      append_left (put_by (embed_cell p s.cell s.node s.full)) (flat_map put_by (embed_made p (p.new_cells (Some s.cell)) ++ embed_cells p c)) n
      (subst (λ m. Has (put_by (embed_cell p s.cell m s.full)) n) (sym node) (on_cell s.cell s.full (λ f. k s (inl refl) node f) some full))
  on_cells (s ∷ c) a some k (inr h) = append_right (put_by (embed_cell p s.cell s.node s.full)) (flat_map put_by (embed_made p (p.new_cells (Some s.cell)) ++ embed_cells p c)) n (elim (has-append (made_cells p (p.new_cells (Some s.cell))) (carried_cells p c) (full_cell a n) h) [
    | inl w ↦ on_made (p.new_cells (Some s.cell)) (embed_cells p c) a w
    | inr w ↦ behind_made (p.new_cells (Some s.cell)) (embed_cells p c) (on_cells c a some (λ t j. k t (inr j)) w)
  ])

  pub on_row : (c : List Slot) → IsSome (p.target_of n) → IsMentionedIn p n c → IsIn n (carried_row p c) → Has (flat_map put_by (embed_row p c)) n
  on_row c some k w = elim (has-append (made_cells p (p.new_cells None)) (carried_cells p c) (full_cell w.0 n) w.1) [
    | inl h ↦ on_made (p.new_cells None) (embed_cells p c) w.0 h
    | inr h ↦ behind_made (p.new_cells None) (embed_cells p c) (on_cells c w.0 some k h)
  ]
