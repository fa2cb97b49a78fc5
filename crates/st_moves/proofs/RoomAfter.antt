-- A change and a step have room together in each row, where the intent leaves the rows after the step short.
use Rattle.std.proofs.Common.{◌≡◌, ◌⊎◌, ◌+◌, ◌<◌, ◌≤◌, ◌^◌, ℕ, Bool, true, false, cond, List, [], ◌∷◌, None, Some, Option, length, refl, ap, ◌∙◌, inl, inr, arith}
use Rattle.std.specs.List.{list_any}
use Rattle.std.specs.Option.{option_map_or}
use Rattle.st_ids.specs.Listing.{item_of}
use Rattle.st_ids.specs.Order.{node_cmp}
use Rattle.st_ids.specs.declared.names.CellId.{CellId}
use Rattle.st_ids.specs.declared.names.NodeId.{NodeId}
use Rattle.st_kind.specs.Named.{Nodes}
use Rattle.st_marks.specs.CarryOut.{full}
use Rattle.st_marks.specs.Document.{Document, HasShortRows, content}
use Rattle.st_marks.specs.Embedding.{IsEmbedding, row_marks, row_part, tells}
use Rattle.st_marks.specs.Extends.{GainsItems, no_more, item_gained, item_kept}
use Rattle.st_marks.specs.Listings.{cells_before, cells_made, marks_of}
use Rattle.st_marks.specs.Row.{CellMark, Counted, Touch, RowPart, SameCell, embed_cells, embed_row, merge, spread, step_cell, step_row}
use Rattle.st_marks.specs.Step.{IsStep}
use Rattle.st_marks.specs.declared.changes.Change.{Change}
use Rattle.st_marks.specs.declared.intents.Intent.{Intent}
use Rattle.st_marks.specs.declared.marks.How.TheVariants.{Stay}
use Rattle.st_marks.specs.declared.marks.RowMarks.{RowMarks}
use Rattle.st_marks.specs.declared.places.Slot.{Slot}
use Rattle.st_marks.specs.declared.steps.Step.{Step}
use Rattle.st_rows.specs.Changes.{may_list}
use Rattle.st_rows.proofs.KindLaws.{length-embed_row, made_or_found, room_for_row, spread-merge}
use Rattle.st_moves.specs.Room.{HasRoomAt}
use Rattle.st_puts.proofs.RowLengths.{made_listed, row_listed}

-- ## A row that grows

-- what is kept isn't made
kept_unmade : (m : Nodes) (c : CellId) (n : NodeId) (a b : Bool) (xs : List CellMark) → length (cells_made (step_cell m c n a b ∷ xs)) ≡ length (cells_made xs)
kept_unmade m c n true true xs = elim (m n) as (λ z. length (cells_made (cond z (Touch c n Stay) Counted ∷ xs)) ≡ length (cells_made xs)) [ true ↦ refl | false ↦ refl ]
kept_unmade m c n true false xs = refl
kept_unmade m c n false true xs = refl
kept_unmade m c n false false xs = refl

-- what a change lists of the row, and the cells that the step makes, it may list after the step
listed_later : (p : RowPart) (m : Nodes) {c d : List Slot} (g : GainsItems SameCell c d) → length (embed_cells p c) + length (cells_made (step_row m g)) ≤ length (embed_cells p d)
listed_later p m no_more = omega arith
listed_later p m (item_gained {y = t} {ys = d} g) = omega (arith, made_listed p (p.new_cells (Some t.cell)) (embed_cells p d), listed_later p m g)
listed_later p m (item_kept {x = s} {y = t} {xs = c} {ys = d} a g) =
    let same : length (p.new_cells (Some s.cell)) ≡ length (p.new_cells (Some t.cell)) = ap (λ x. length (p.new_cells (Some x))) a.0 in
    omega (arith, same, kept_unmade m s.cell s.node s.full t.full (step_row m g), made_listed p (p.new_cells (Some s.cell)) (embed_cells p c), made_listed p (p.new_cells (Some t.cell)) (embed_cells p d), listed_later p m g)

module _ (p : RowPart) (m : Nodes) {c d : List Slot} (g : GainsItems SameCell c d) where
  room_over : may_list (embed_row p c) (step_row m g) ≤ length (embed_row p d)
  room_over = omega (arith, room_for_row p m g, length-embed_row p d)

  room_under : may_list (step_row m g) (embed_row p c) ≤ length (embed_row p d)
  room_under = omega (arith, made_or_found (embed_row p c), made_listed p (p.new_cells None) (embed_cells p c), made_listed p (p.new_cells None) (embed_cells p d), listed_later p m g)

-- ## Rows that are listed or not

abbrev marks_in : Option RowMarks → List CellMark
marks_in o = option_map_or (λ (r : RowMarks). spread r.marks) o []

all_or_none : (n : NodeId) (cells : List CellMark) → (marks_in (row_marks n cells) ≡ cells) ⊎ (marks_in (row_marks n cells) ≡ [])
all_or_none n cells =
    let all : RowMarks = record { node = n; marks = merge cells } in
    elim (list_any tells cells) as (λ b. (marks_in (cond b (Some all) None) ≡ cells) ⊎ (marks_in (cond b (Some all) None) ≡ [])) [ true ↦ inl (spread-merge cells) | false ↦ inr refl ]

fewer : (xs ys : List CellMark) → (xs ≡ ys) ⊎ (xs ≡ []) → (length (cells_made xs) ≤ length (cells_made ys)) × (length (cells_before xs) ≤ length (cells_before ys))
fewer xs ys (inl e) =
    let made : length (cells_made xs) ≡ length (cells_made ys) = ap (λ l. length (cells_made l)) e in
    let found : length (cells_before xs) ≡ length (cells_before ys) = ap (λ l. length (cells_before l)) e in
    (omega (arith, made), omega (arith, found))
fewer xs ys (inr e) =
    let made : length (cells_made xs) ≡ 0 = ap (λ l. length (cells_made l)) e in
    let found : length (cells_before xs) ≡ 0 = ap (λ l. length (cells_before l)) e in
    (omega (arith, made), omega (arith, found))

listed_few : (rows : List RowMarks) (n : NodeId) (cells : List CellMark) → item_of node_cmp (λ (r : RowMarks). r.node) rows n ≡ row_marks n cells
    → (length (cells_made (marks_of rows n)) ≤ length (cells_made cells)) × (length (cells_before (marks_of rows n)) ≤ length (cells_before cells))
listed_few rows n cells e = go (all_or_none n cells)
  where
    go : (marks_in (row_marks n cells) ≡ cells) ⊎ (marks_in (row_marks n cells) ≡ []) → (length (cells_made (marks_of rows n)) ≤ length (cells_made cells)) × (length (cells_before (marks_of rows n)) ≤ length (cells_before cells))
    go (inl f) = fewer (marks_of rows n) cells (inl (ap marks_in e ∙ f))
    go (inr f) = fewer (marks_of rows n) cells (inr (ap marks_in e ∙ f))

-- ## Over documents

sum_below : (a b c x y z k l : ℕ) → a ≤ x → b ≤ y → c ≤ z → x + y + z ≤ k → k ≡ l → l < 2 ^ 32 → a + b + c < 2 ^ 32
sum_below a b c x y z k l u v w h e s = omega (arith, u, v, w, h, e, s)

module _ (D E : Document) (N : Intent) (C : Change) (S : Step) (short : HasShortRows (full E N)) (change : IsEmbedding D N C) (step : IsStep D E S) (n : NodeId) where
  abbrev p : RowPart
  p = row_part change.mentioned N n

  abbrev cs : List CellMark
  cs = embed_row p (content D n)

  abbrev ss : List CellMark
  ss = step_row step.mentioned (step.grows n)

  of_change : (length (cells_made (marks_of C.rows n)) ≤ length (cells_made cs)) × (length (cells_before (marks_of C.rows n)) ≤ length (cells_before cs))
  of_change = listed_few C.rows n cs (change.rows.at_each n)

  of_step : (length (cells_made (marks_of S.rows n)) ≤ length (cells_made ss)) × (length (cells_before (marks_of S.rows n)) ≤ length (cells_before ss))
  of_step = listed_few S.rows n ss (step.rows.at_each n)

  pub have_room : HasRoomAt C.rows S.rows n
  have_room = (
    sum_below (length (cells_made (marks_of C.rows n))) (length (cells_made (marks_of S.rows n))) (length (cells_before (marks_of S.rows n)))
        (length (cells_made cs)) (length (cells_made ss)) (length (cells_before ss)) (length (embed_row p (content E n))) (length ((full E N).rows n))
        of_change.0 of_step.0 of_step.1 (room_over p step.mentioned (step.grows n)) (row_listed E N change.mentioned n) (short n),
    sum_below (length (cells_made (marks_of S.rows n))) (length (cells_made (marks_of C.rows n))) (length (cells_before (marks_of C.rows n)))
        (length (cells_made ss)) (length (cells_made cs)) (length (cells_before cs)) (length (embed_row p (content E n))) (length ((full E N).rows n))
        of_step.0 of_change.0 of_change.1 (room_under p step.mentioned (step.grows n)) (row_listed E N change.mentioned n) (short n),
  )
