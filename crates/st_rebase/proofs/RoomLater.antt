-- What a change and a step list together of a row has room, also where the change is the one of the document between.
use Rattle.std.proofs.Common.{◌≡◌, ◌<◌, ◌^◌, ◌+◌, ℕ, Bool, true, false, cond, List, [], ◌∷◌, ◌++◌, length, Option, Some, None, refl, sym, ap, ◌∙◌, subst, arith}
use Rattle.std.specs.List.{list_any}
use Rattle.std.specs.Option.{option_map_or}
use Rattle.st_ids.specs.Listing.{Has, item_of}
use Rattle.st_ids.specs.Order.{node_cmp}
use Rattle.st_ids.specs.declared.names.CellId.{CellId}
use Rattle.st_ids.specs.declared.names.NodeId.{NodeId}
use Rattle.st_kind.specs.Named.{Nodes}
use Rattle.st_marks.specs.declared.changes.Change.{Change}
use Rattle.st_marks.specs.declared.intents.Intent.{Intent}
use Rattle.st_marks.specs.declared.intents.Owned.{Owned}
use Rattle.st_marks.specs.declared.intents.To.{To}
use Rattle.st_marks.specs.declared.marks.RowMarks.{RowMarks}
use Rattle.st_marks.specs.declared.places.Slot.{Slot}
use Rattle.st_marks.specs.declared.steps.Step.{Step}
use Rattle.st_marks.specs.Document.{Document, content}
use Rattle.st_marks.specs.Embedding.{IsEmbedding, row_marks, row_part, tells}
use Rattle.st_marks.specs.Extends.{IsExtendedBy, GainsItems, no_more, item_gained, item_kept}
use Rattle.st_marks.specs.How.{is_here}
use Rattle.st_marks.specs.Intent.{Fits, group_at}
use Rattle.st_marks.specs.Listings.{cells_before, cells_made, marks_of}
use Rattle.st_marks.specs.Row.{CellMark, Counted, Gap, Touch, Make, Fill, RowPart, SameCell, embed_cell, embed_cells, embed_made, embed_row, how, merge, spread, step_row}
use Rattle.st_marks.specs.Step.{IsStep}
use Rattle.st_rows.specs.Changes.{may_list}
use Rattle.st_rows.specs.Sequence.{ListsNew, RowFits, cells_of, row_part_of}
use Rattle.st_rows.proofs.Documents.{part_fits}
use Rattle.st_rows.proofs.KindLaws.{spread-merge}
use Rattle.st_rows.proofs.GainedCells.{AllGained, gained_new, weaker}
use Rattle.st_moves.specs.Between.{between}
use Rattle.st_moves.specs.Carried.{row_between}
use Rattle.st_moves.specs.Room.{HasRoomAt}
use Rattle.st_moves.proofs.BetweenRows.{content_between}
use Rattle.st_marks.proofs.Unique.{distinct_content}
use Rattle.st_rebase.specs.inside.Room.{HasRoomOver}
use Rattle.st_puts.proofs.ListedIf.{shown-None, listed-Some}

-- ## How many cells a row's part makes

-- the cells that are made after those of a row
abbrev after_cells : (Option CellId → List Owned) → List Slot → ℕ
after_cells made [] = 0
after_cells made (s ∷ c) = length (made (Some s.cell)) + after_cells made c

module _ (p : RowPart) where
  none_made : (s : Slot) (b : Bool) (xs : List CellMark) → cells_made (embed_cell p s.cell s.node b ∷ xs) ≡ cells_made xs
  none_made s true xs = elim (p.mentioned s.node) as (λ b. cells_made (cond b (Touch s.cell s.node (how (p.target_of s.node) (To.Cell s.cell))) Counted ∷ xs) ≡ cells_made xs) [ true ↦ refl | false ↦ refl ]
  none_made s false xs = elim (is_here (how (p.target_of s.node) (To.Cell s.cell))) as (λ b. cells_made (cond b (Fill s.cell s.node) (Gap s.cell) ∷ xs) ≡ cells_made xs) [ true ↦ refl | false ↦ refl ]

  made_before : (os : List Owned) (xs : List CellMark) → length (cells_made (embed_made p os ++ xs)) ≡ length os + length (cells_made xs)
  made_before [] xs = omega arith
  made_before (o ∷ os) xs = omega (arith, made_before os xs)

  made_after : (c : List Slot) → length (cells_made (embed_cells p c)) ≡ after_cells p.new_cells c
  made_after [] = refl
  made_after (s ∷ c) =
      ap length (none_made s s.full (embed_made p (p.new_cells (Some s.cell)) ++ embed_cells p c))
      ∙ made_before (p.new_cells (Some s.cell)) (embed_cells p c)
      ∙ ap (λ k. length (p.new_cells (Some s.cell)) + k) (made_after c)

  made_in_row : (c : List Slot) → length (cells_made (embed_row p c)) ≡ length (p.new_cells None) + after_cells p.new_cells c
  made_in_row c = made_before (p.new_cells None) (embed_cells p c) ∙ ap (λ k. length (p.new_cells None) + k) (made_after c)

-- cells that a row gains have none made after them
same_after : (made : Option CellId → List Owned) (m : Nodes) {c d : List Slot} (g : GainsItems SameCell c d) → AllGained (λ t. made (Some t.cell) ≡ []) g → after_cells made (row_between m g) ≡ after_cells made c
same_after made m no_more h = refl
same_after made m (item_gained {y = t} g) h = ap (λ os. length os + after_cells made (row_between m g)) h.0 ∙ nothing (after_cells made (row_between m g)) ∙ same_after made m g h.1
  where
    nothing : (k : ℕ) → 0 + k ≡ k
    nothing k = omega arith
same_after made m (item_kept {x = s} {y = t} a g) h = λ i. length (made (Some (sym a.0 i))) + same_after made m g h i

-- marks that tell nothing make nothing
quiet_makes : (xs : List CellMark) → list_any tells xs ≡ false → length (cells_made xs) ≡ 0
quiet_makes [] e = refl
quiet_makes (Counted ∷ xs) e = quiet_makes xs e
quiet_makes (Gap c ∷ xs) e = quiet_makes xs e
quiet_makes (Touch c n h ∷ xs) e = cc
quiet_makes (Make c n b ∷ xs) e = cc
quiet_makes (Fill c n ∷ xs) e = cc

-- ## Over documents

module _ (D E : Document) (N : Intent) (x : IsExtendedBy D E) (f : Fits D N) (C : Change) (S : Step) (change : IsEmbedding D N C) (step : IsStep D E S) (m : Nodes) (new : List NodeId) (listed : ListsNew N new) (n : NodeId) where
  fits_here : RowFits (row_part_of change.mentioned new N n) (content D n)
  fits_here = part_fits D N change.mentioned new n x.before f listed (λ k i. (change.which k).1 i)

  none_behind : (t : Slot) → (Has (cells_of (content D n)) t.cell → ⊥) × Has (content E n) t → group_at N n (Some t.cell) ≡ []
  none_behind t h = go (group_at N n (Some t.cell)) refl
    where
      go : (os : List Owned) → group_at N n (Some t.cell) ≡ os → os ≡ []
      go [] e = refl
      go (o ∷ os) e = absurd (h.0 (fits_here.behind t.cell (λ z. let bad : ◌≡◌ {A = List Owned} (o ∷ os) [] = sym e ∙ z in cc)))

  -- the change between makes in the row what the change makes there
  same_made : length (cells_made (embed_row (row_part m N n) (content (between m D E) n))) ≡ length (cells_made (embed_row (row_part change.mentioned N n) (content D n)))
  same_made =
      made_in_row (row_part m N n) (content (between m D E) n)
      ∙ ap (λ c. length (group_at N n None) + after_cells (group_at N n) c) (content_between D E m x n (step.grows n))
      ∙ ap (λ k. length (group_at N n None) + k) (same_after (group_at N n) m (step.grows n)
      (weaker (λ t. (Has (cells_of (content D n)) t.cell → ⊥) × Has (content E n) t) (λ t. group_at N n (Some t.cell) ≡ []) none_behind (step.grows n) (gained_new (step.grows n) (distinct_content E (E.rows n) (x.after.once n)))))
      ∙ sym (made_in_row (row_part change.mentioned N n) (content D n))

  listed_made : (o : Option RowMarks) → row_marks n (embed_row (row_part change.mentioned N n) (content D n)) ≡ o
      → length (cells_made (embed_row (row_part change.mentioned N n) (content D n))) ≡ length (cells_made (option_map_or (λ (r : RowMarks). spread r.marks) o []))
  listed_made None e = quiet_makes (embed_row (row_part change.mentioned N n) (content D n)) (shown-None (list_any tells (embed_row (row_part change.mentioned N n) (content D n))) (record { node = n; marks = merge (embed_row (row_part change.mentioned N n) (content D n)) }) e)
  listed_made (Some r) e =
      let t = listed-Some (list_any tells (embed_row (row_part change.mentioned N n) (content D n))) (record { node = n; marks = merge (embed_row (row_part change.mentioned N n) (content D n)) }) r e in
      sym (ap (λ (q : RowMarks). length (cells_made (spread q.marks))) t.0 ∙ ap (λ ms. length (cells_made ms)) (spread-merge (embed_row (row_part change.mentioned N n) (content D n))))

  room_sum : (a b c d k : ℕ) → a ≡ b → b + c + d < k → a + c + d < k
  room_sum a b c d k e h = omega (arith, e, h)

  -- so a row of it has room over the step's
  pub room_later : HasRoomAt C.rows S.rows n → (r : RowMarks) → row_marks n (embed_row (row_part m N n) (content (between m D E) n)) ≡ Some r
      → HasRoomOver r (item_of node_cmp (λ (s : RowMarks). s.node) S.rows n)
  room_later room r e = go (item_of node_cmp (λ (s : RowMarks). s.node) S.rows n) refl
    where
      made : length (cells_made (spread r.marks)) ≡ length (cells_made (marks_of C.rows n))
      made =
          let t = listed-Some (list_any tells (embed_row (row_part m N n) (content (between m D E) n))) (record { node = n; marks = merge (embed_row (row_part m N n) (content (between m D E) n)) }) r e in
          ap (λ (q : RowMarks). length (cells_made (spread q.marks))) t.0 ∙ ap (λ ms. length (cells_made ms)) (spread-merge (embed_row (row_part m N n) (content (between m D E) n)))
          ∙ same_made ∙ listed_made (item_of node_cmp (λ (q : RowMarks). q.node) C.rows n) (sym (change.rows.at_each n))

      go : (o : Option RowMarks) → item_of node_cmp (λ (s : RowMarks). s.node) S.rows n ≡ o → HasRoomOver r o
      go None h = tt
      go (Some s) h =
          let told : row_marks n (step_row step.mentioned (step.grows n)) ≡ Some s = sym (step.rows.at_each n) ∙ h in
          let t = listed-Some (list_any tells (step_row step.mentioned (step.grows n))) (record { node = n; marks = merge (step_row step.mentioned (step.grows n)) }) s told in
          let merged : merge (spread s.marks) ≡ s.marks = ap (λ (q : RowMarks). merge (spread q.marks)) t.0 ∙ ap merge (spread-merge (step_row step.mentioned (step.grows n))) ∙ sym (ap (λ (q : RowMarks). q.marks) t.0) in
          let fits : may_list (marks_of C.rows n) (spread s.marks) < 2 ^ 32 = subst (λ o. may_list (marks_of C.rows n) (option_map_or (λ (q : RowMarks). spread q.marks) o []) < 2 ^ 32) h room.0 in
          (merged, room_sum (length (cells_made (spread r.marks))) (length (cells_made (marks_of C.rows n))) (length (cells_made (spread s.marks))) (length (cells_before (spread s.marks))) (2 ^ 32) made fits)
