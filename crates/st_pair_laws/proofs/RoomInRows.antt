-- Where a change and a step have room together in each row, the intent leaves rows short after the step, if it does before it.
use Rattle.std.proofs.Common.{◌≡◌, ◌+◌, ◌<◌, ◌^◌, ◌++◌, ℕ, suc, Bool, true, false, cond, List, [], ◌∷◌, length, Option, Some, None, IfSome, refl, sym, ap, ◌∙◌, subst, inl, arith}
use Rattle.std.specs.List.{list_any}
use Rattle.std.specs.Option.{option_map_or}
use Rattle.st_ids.specs.Listing.{Has, item_of}
use Rattle.st_ids.specs.Order.{node_cmp}
use Rattle.st_ids.specs.declared.names.CellId.{CellId}
use Rattle.st_ids.specs.declared.names.NodeId.{NodeId}
use Rattle.st_marks.specs.declared.changes.Change.{Change}
use Rattle.st_marks.specs.declared.intents.Group.{Group}
use Rattle.st_marks.specs.declared.intents.Intent.{Intent}
use Rattle.st_marks.specs.declared.intents.Owned.{Owned}
use Rattle.st_marks.specs.declared.intents.To.{To}
use Rattle.st_marks.specs.declared.marks.How.TheVariants.{Stay}
use Rattle.st_marks.specs.declared.marks.RowMarks.{RowMarks}
use Rattle.st_marks.specs.declared.places.Slot.{Slot}
use Rattle.st_marks.specs.declared.steps.Step.{Step}
use Rattle.st_marks.specs.CarryOut.{full}
use Rattle.st_marks.specs.Document.{Document, HasShortRows, content, owned_cell}
use Rattle.st_marks.specs.Embedding.{IsEmbedding, row_marks, row_part, tells}
use Rattle.st_marks.specs.Extends.{GainsItems, IsExtendedBy, no_more, item_gained, item_kept}
use Rattle.st_marks.specs.How.{is_here}
use Rattle.st_marks.specs.Intent.{Fits, IsKnown, group_at}
use Rattle.st_marks.specs.Listings.{cells_before, cells_made, marks_of}
use Rattle.st_marks.specs.Row.{CellMark, Counted, Fill, Gap, Make, RowPart, SameCell, Touch, embed_cell, embed_cells, embed_made, embed_row, how, merge, spread, step_cell, step_row}
use Rattle.st_marks.specs.Step.{IsStep}
use Rattle.st_marks.proofs.Lookups.{group_at-group}
use Rattle.st_marks.proofs.Members.{all-has}
use Rattle.st_marks.proofs.Unique.{distinct_content}
use Rattle.st_moves.specs.Room.{HasRoomInRows}
use Rattle.st_puts.proofs.ListedIf.{listed-Some, shown-None}
use Rattle.st_puts.proofs.RowLengths.{made_listed, row_listed}
use Rattle.st_rows.specs.Sequence.{cells_of}
use Rattle.st_rows.proofs.GainedCells.{AllGained, cell_there, gained_new, weaker}
use Rattle.st_rows.proofs.KindLaws.{length-step_row, made_or_found, spread-merge}

-- ## How many cells a row's part makes

-- the cells that are made after those of a row
abbrev after_cells : (Option CellId → List Owned) → List Slot → ℕ
after_cells made [] = 0
after_cells made (s ∷ c) = length (made (Some s.cell)) + after_cells made c

module _ (p : RowPart) where
  none_made : (s : Slot) (b : Bool) (xs : List CellMark) → cells_made (embed_cell p s.cell s.node b ∷ xs) ≡ cells_made xs
  none_made s true xs = elim (p.mentioned s.node) as (λ b. cells_made (cond b (Touch s.cell s.node (how (p.target_of s.node) (To.Cell s.cell))) Counted ∷ xs) ≡ cells_made xs) [ true ↦ refl | false ↦ refl ]
  none_made s false xs = elim (is_here (how (p.target_of s.node) (To.Cell s.cell))) as (λ b. cells_made (cond b (Fill s.cell s.node) (Gap s.cell) ∷ xs) ≡ cells_made xs) [ true ↦ refl | false ↦ refl ]

  made_before : (os : List Owned) (xs : List CellMark) → length (cells_made (embed_made p os ++ xs)) ≡ length os + length (cells_made xs)
  made_before [] xs = omega arith
  made_before (o ∷ os) xs = omega (arith, made_before os xs)

  made_after : (c : List Slot) → length (cells_made (embed_cells p c)) ≡ after_cells p.new_cells c
  made_after [] = refl
  made_after (s ∷ c) =
      ap length (none_made s s.full (embed_made p (p.new_cells (Some s.cell)) ++ embed_cells p c))
      ∙ made_before (p.new_cells (Some s.cell)) (embed_cells p c)
      ∙ ap (λ k. length (p.new_cells (Some s.cell)) + k) (made_after c)

  made_in_row : (c : List Slot) → length (cells_made (embed_row p c)) ≡ length (p.new_cells None) + after_cells p.new_cells c
  made_in_row c = made_before (p.new_cells None) (embed_cells p c) ∙ ap (λ k. length (p.new_cells None) + k) (made_after c)

  all_after : (c : List Slot) → length (embed_cells p c) ≡ after_cells p.new_cells c + length c
  all_after [] = omega arith
  all_after (s ∷ c) = omega (arith, made_listed p (p.new_cells (Some s.cell)) (embed_cells p c), all_after c)

  -- of a row, what is made and what is there
  all_in_row : (c : List Slot) → length (embed_row p c) ≡ length (p.new_cells None) + after_cells p.new_cells c + length c
  all_in_row c = omega (arith, made_listed p (p.new_cells None) (embed_cells p c), all_after c)

-- cells that a row gains have none made after them
same_after : (made : Option CellId → List Owned) {c d : List Slot} (g : GainsItems SameCell c d) → AllGained (λ t. made (Some t.cell) ≡ []) g → after_cells made d ≡ after_cells made c
same_after made no_more h = refl
same_after made (item_gained {y = t} {ys = d} g) h = ap (λ os. length os + after_cells made d) h.0 ∙ nothing (after_cells made d) ∙ same_after made g h.1
  where
    nothing : (k : ℕ) → 0 + k ≡ k
    nothing k = omega arith
same_after made (item_kept {x = s} {y = t} a g) h = λ i. length (made (Some (sym a.0 i))) + same_after made g h i

-- marks that tell nothing make nothing
quiet_makes : (xs : List CellMark) → list_any tells xs ≡ false → length (cells_made xs) ≡ 0
quiet_makes [] e = refl
quiet_makes (Counted ∷ xs) e = quiet_makes xs e
quiet_makes (Gap c ∷ xs) e = quiet_makes xs e
quiet_makes (Touch c n h ∷ xs) e = cc
quiet_makes (Make c n b ∷ xs) e = cc
quiet_makes (Fill c n ∷ xs) e = cc

-- a row that is listed is listed whole; of one that isn't nothing is made
listed_made : (n : NodeId) (cells : List CellMark) (o : Option RowMarks) → row_marks n cells ≡ o → length (cells_made cells) ≡ length (cells_made (option_map_or (λ (r : RowMarks). spread r.marks) o []))
listed_made n cells None e = quiet_makes cells (shown-None (list_any tells cells) (record { node = n; marks = merge cells }) e)
listed_made n cells (Some r) e =
    let t = listed-Some (list_any tells cells) (record { node = n; marks = merge cells }) r e in
    sym (ap (λ (q : RowMarks). length (cells_made (spread q.marks))) t.0 ∙ ap (λ ms. length (cells_made ms)) (spread-merge cells))

-- a mark of a cell that is kept finds it
one_found : (m : NodeId → Bool) (c : CellId) (n : NodeId) (a b : Bool) (xs : List CellMark) → length (cells_before (step_cell m c n a b ∷ xs)) ≡ suc (length (cells_before xs))
one_found m c n true true xs = elim (m n) as (λ z. length (cells_before (cond z (Touch c n Stay) Counted ∷ xs)) ≡ suc (length (cells_before xs))) [ true ↦ refl | false ↦ refl ]
one_found m c n true false xs = refl
one_found m c n false true xs = refl
one_found m c n false false xs = refl

-- so a step finds all cells of the row
all_found : (m : NodeId → Bool) {c d : List Slot} (g : GainsItems SameCell c d) → length (cells_before (step_row m g)) ≡ length c
all_found m no_more = refl
all_found m (item_gained g) = all_found m g
all_found m (item_kept {x = s} {y = t} a g) = one_found m s.cell s.node s.full t.full (step_row m g) ∙ ap suc (all_found m g)

-- ## Over documents

sum_listed : (all made there gained before told : ℕ) → all ≡ made + there → there ≡ gained + before → made ≡ told → told + gained + before < 2 ^ 32 → all < 2 ^ 32
sum_listed all made there gained before told e f g h = omega (arith, e, f, g, h)

sum_unlisted : (all made there gained before whole : ℕ) → all ≡ made + there → there ≡ gained + before → gained ≡ 0 → whole ≡ made + before → whole < 2 ^ 32 → all < 2 ^ 32
sum_unlisted all made there gained before whole e f g h l = omega (arith, e, f, g, h, l)

module _ (D E : Document) (N : Intent) (C : Change) (S : Step) (x : IsExtendedBy D E) (f : Fits D N) (short : HasShortRows (full D N)) (change : IsEmbedding D N C) (step : IsStep D E S) (room : HasRoomInRows C S) (n : NodeId) where
  abbrev p : RowPart
  p = row_part change.mentioned N n

  abbrev cs : List CellMark
  cs = embed_row p (content D n)

  abbrev ss : List CellMark
  ss = step_row step.mentioned (step.grows n)

  none_behind : (t : Slot) → (Has (cells_of (content D n)) t.cell → ⊥) × Has (content E n) t → group_at N n (Some t.cell) ≡ []
  none_behind t h = go (group_at N n (Some t.cell)) refl
    where
      go : (os : List Owned) → group_at N n (Some t.cell) ≡ os → os ≡ []
      go [] e = refl
      go (o ∷ os) e =
          let g = group_at-group N n (Some t.cell) o (subst (λ l. Has l o) (sym e) (inl refl)) in
          let known = all-has (λ (g : Group). IsKnown D N g.node × IfSome g.after (λ c. D.row_of c ≡ Some g.node)) N.groups g.group f.groups_known g.listed in
          let row : D.row_of t.cell ≡ Some n = subst (λ (o : Option CellId). IfSome o (λ b. D.row_of b ≡ Some g.group.node)) g.after known.1 ∙ ap (λ k. Some k) g.node in
          let r = (x.before.one_row t.cell n).0 row in
          absurd (h.0 (cell_there D n (owned_cell t.cell r.0) r.1))

  after : length ((full E N).rows n) ≡ length (cells_made cs) + length (content E n)
  after =
      let same = same_after (group_at N n) (step.grows n)
      (weaker (λ t. (Has (cells_of (content D n)) t.cell → ⊥) × Has (content E n) t) (λ t. group_at N n (Some t.cell) ≡ []) none_behind (step.grows n) (gained_new (step.grows n) (distinct_content E (E.rows n) (x.after.once n)))) in
      omega (arith, row_listed E N change.mentioned n, all_in_row p (content E n), made_in_row p (content D n), same)

  before : length ((full D N).rows n) ≡ length (cells_made cs) + length (content D n)
  before = omega (arith, row_listed D N change.mentioned n, all_in_row p (content D n), made_in_row p (content D n))

  grown : length (content E n) ≡ length (cells_made ss) + length (content D n)
  grown = omega (arith, length-step_row step.mentioned (step.grows n), made_or_found ss, all_found step.mentioned (step.grows n))

  told : length (cells_made cs) ≡ length (cells_made (marks_of C.rows n))
  told = listed_made n cs (item_of node_cmp (λ (r : RowMarks). r.node) C.rows n) (sym (change.rows.at_each n))

  pub row_kept : length ((full E N).rows n) < 2 ^ 32
  row_kept = go (item_of node_cmp (λ (r : RowMarks). r.node) S.rows n) refl
    where
      go : (o : Option RowMarks) → item_of node_cmp (λ (r : RowMarks). r.node) S.rows n ≡ o → length ((full E N).rows n) < 2 ^ 32
      go None e = sum_unlisted (length ((full E N).rows n)) (length (cells_made cs)) (length (content E n)) (length (cells_made ss)) (length (content D n)) (length ((full D N).rows n))
          after grown (listed_made n ss None (sym (step.rows.at_each n) ∙ e)) before (short n)
      go (Some s) e =
          let t = listed-Some (list_any tells ss) (record { node = n; marks = merge ss }) s (sym (step.rows.at_each n) ∙ e) in
          let marks : marks_of S.rows n ≡ ss = ap (λ o. option_map_or (λ (r : RowMarks). spread r.marks) o []) e ∙ ap (λ (q : RowMarks). spread q.marks) t.0 ∙ spread-merge ss in
          let fits : length (cells_made (marks_of C.rows n)) + length (cells_made ss) + length (content D n) < 2 ^ 32 =
          subst (λ k. length (cells_made (marks_of C.rows n)) + length (cells_made ss) + k < 2 ^ 32) (all_found step.mentioned (step.grows n))
          (subst (λ ms. length (cells_made (marks_of C.rows n)) + length (cells_made ms) + length (cells_before ms) < 2 ^ 32) marks (room n).0) in
          sum_listed (length ((full E N).rows n)) (length (cells_made cs)) (length (content E n)) (length (cells_made ss)) (length (content D n)) (length (cells_made (marks_of C.rows n))) after grown told fits
