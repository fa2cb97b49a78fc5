-- What is told once of a row.
use Rattle.std.specs.Prelude.{◌≡◌, ◌≢◌, ◌+◌, ◌<◌, ◌≤◌, ◌^◌, Bool, true, false, List, [], ◌∷◌, ◌++◌, Some, None, length, refl}
use Rattle.std.proofs.Common.{sym, ap, ◌∙◌, cond, inl, inr, arith}
use Rattle.std.specs.List.{AllByRecursion}
use Rattle.st_ids.specs.Listing.{AreDistinct, Has}
use Rattle.st_ids.specs.declared.names.CellId.{CellId}
use Rattle.st_ids.specs.declared.names.NodeId.{NodeId}
use Rattle.st_kind.specs.Named.{Nodes}
use Rattle.st_marks.specs.declared.intents.Owned.{Owned}
use Rattle.st_marks.specs.declared.intents.To.{To}
use Rattle.st_marks.specs.declared.marks.Mark.{Mark}
use Rattle.st_marks.specs.declared.places.Slot.{Slot}
use Rattle.st_marks.specs.Extends.{GainsItems, no_more, item_gained, item_kept}
use Rattle.st_marks.specs.Row.{CellMark, Counted, Gap, Touch, Make, Fill, RowPart, SameCell, how, skip_one, merge, spread, step_cell, step_row, embed_cell, embed_made, embed_cells, embed_row}
use Rattle.st_marks.specs.How.{is_here}
use Rattle.st_marks.specs.Listings.{cells_before, cells_made}
use Rattle.st_rows.specs.Changes.{made_cells, carried_cells, carried_row, may_list}
use Rattle.st_rows.specs.Rows.{NamesMoved}
use Rattle.st_rows.specs.Sequence.{SeqPart, RowFits, RowCanHold, RowKeeps, RowLeadsOver, cells_of, row_carried, row_change_of}
use Rattle.st_rows.specs.declared.values.RowChange.{RowChange}
use Rattle.st_rows.specs.declared.values.RowHeld.{RowHeld}
use Rattle.st_rows.specs.declared.values.RowStep.{RowStep}

-- ## Cells that are merged and laid out again

spread-skip_one : (ms : List Mark) → spread (skip_one ms) ≡ Counted ∷ spread ms
spread-skip_one [] = refl
spread-skip_one (Mark.Skip k ∷ ms) = refl
spread-skip_one (Mark.Gap c ∷ ms) = refl
spread-skip_one (Mark.Touch c n x ∷ ms) = refl
spread-skip_one (Mark.Make c n b ∷ ms) = refl
spread-skip_one (Mark.Fill c n ∷ ms) = refl

pub spread-merge : (cells : List CellMark) → spread (merge cells) ≡ cells
spread-merge [] = refl
spread-merge (Counted ∷ ms) = spread-skip_one (merge ms) ∙ ap (λ l. Counted ∷ l) (spread-merge ms)
spread-merge (Gap c ∷ ms) = ap (λ l. Gap c ∷ l) (spread-merge ms)
spread-merge (Touch c n h ∷ ms) = ap (λ l. Touch c n h ∷ l) (spread-merge ms)
spread-merge (Make c n b ∷ ms) = ap (λ l. Make c n b ∷ l) (spread-merge ms)
spread-merge (Fill c n ∷ ms) = ap (λ l. Fill c n ∷ l) (spread-merge ms)

pub spread_of : (ms : List Mark) (cells : List CellMark) → ms ≡ merge cells → spread ms ≡ cells
spread_of ms cells e = ap spread e ∙ spread-merge cells

-- ## One step

-- a cell that was there is there still
pub has_grown : {c d : List Slot} → GainsItems SameCell c d → (a : CellId) → Has (cells_of c) a → Has (cells_of d) a
has_grown no_more a h = h
has_grown (item_gained g) a h = inr (has_grown g a h)
has_grown (item_kept same g) a (inl e) = inl (sym same.0 ∙ e)
has_grown (item_kept same g) a (inr h) = inr (has_grown g a h)

-- a cell that is there once isn't there again
pub not_again : (d : List Slot) (a : CellId) → AllByRecursion (λ (s : Slot). s.cell ≢ a) d → Has (cells_of d) a → ⊥
not_again [] a h w = w
not_again (s ∷ d) a h (inl e) = h.0 e
not_again (s ∷ d) a h (inr w) = not_again d a h.1 w

-- where each cell is there once, a row grows to another in one way
pub same_grown : (m : Nodes) {c d : List Slot} (g h : GainsItems SameCell c d) → AreDistinct (λ (s : Slot). s.cell) d → (step_row m g ≡ step_row m h) × (NamesMoved m g → NamesMoved m h)
same_grown m no_more no_more o = (refl, λ w. w)
same_grown m (item_gained {y = s} g) (item_gained h) o = let r = same_grown m g h o.1 in (ap (λ l. Make s.cell s.node s.full ∷ l) r.0, r.1)
same_grown m (item_gained {ys = d} g) (item_kept {y = t} a h) o = absurd (not_again d t.cell o.0 (has_grown g t.cell (inl a.0)))
same_grown m (item_kept {y = t} a g) (item_gained {ys = d} h) o = absurd (not_again d t.cell o.0 (has_grown h t.cell (inl a.0)))
same_grown m (item_kept {x = s} {y = t} a g) (item_kept b h) o = let r = same_grown m g h o.1 in (ap (λ l. step_cell m s.cell s.node s.full t.full ∷ l) r.0, λ w. (w.0, r.1 w.1))

pub one_row_step : (m : Nodes) (c d : RowHeld) (s t : RowStep) → RowLeadsOver m c.cells d.cells s.marks → RowLeadsOver m c.cells d.cells t.marks → s ≡ t
one_row_step m c d s t u v = λ i. record { marks = (u.step.says ∙ ap merge (same_grown m u.step.grows v.step.grows u.after.once).0 ∙ sym v.step.says) i }

-- ## There is a change and a step

pub has_row_change : (p : SeqPart) (c : RowHeld) → RowFits p c.cells → (x : RowChange) × (x ≡ row_change_of p c.cells)
has_row_change p c w = (row_change_of p c.cells, refl)

pub has_row_step : (m : Nodes) (c d : RowHeld) → RowCanHold c.cells → RowCanHold d.cells → ((g : GainsItems SameCell c.cells d.cells) × NamesMoved m g) → (s : RowStep) × RowLeadsOver m c.cells d.cells s.marks
has_row_step m c d w v g = (record { marks = merge (step_row m g.0) }, record { before = w; after = v; step = record { grows = g.0; says = refl }; moved = g.1 })

-- ## One change

pub one_row_change : (p : SeqPart) (c : RowHeld) (x y : RowChange) → x ≡ row_change_of p c.cells → y ≡ row_change_of p c.cells → x ≡ y
one_row_change p c x y e f = e ∙ sym f

pub kept_in_turn : (p : SeqPart) (c d e : RowHeld) → RowKeeps p.part c.cells d.cells → RowKeeps p.part d.cells e.cells → RowKeeps p.part c.cells e.cells
kept_in_turn p c d e k l = record { stays = λ n w h. k.stays n w (l.stays n w h); older = λ n a w h. k.older n a w (l.older n a w h) }

-- ## How many cells are listed

pub length-step_row : (m : Nodes) {c d : List Slot} (g : GainsItems SameCell c d) → length (step_row m g) ≡ length d
length-step_row m no_more = refl
length-step_row m (item_gained g) = omega (arith, length-step_row m g)
length-step_row m (item_kept a g) = omega (arith, length-step_row m g)

length-made : (p : RowPart) (os : List Owned) (xs : List CellMark) (ys : List Slot) → length xs ≡ length ys → length (embed_made p os ++ xs) ≡ length (made_cells p os ++ ys)
length-made p [] xs ys e = e
length-made p (o ∷ os) xs ys e = omega (arith, length-made p os xs ys e)

length-embed_cells : (p : RowPart) (c : List Slot) → length (embed_cells p c) ≡ length (carried_cells p c)
length-embed_cells p [] = refl
length-embed_cells p (s ∷ c) = omega (arith, length-made p (p.new_cells (Some s.cell)) (embed_cells p c) (carried_cells p c) (length-embed_cells p c))

pub length-embed_row : (p : RowPart) (c : List Slot) → length (embed_row p c) ≡ length (carried_row p c)
length-embed_row p c = length-made p (p.new_cells None) (embed_cells p c) (carried_cells p c) (length-embed_cells p c)

pub made_or_found : (xs : List CellMark) → length (cells_made xs) + length (cells_before xs) ≡ length xs
made_or_found [] = omega arith
made_or_found (Counted ∷ xs) = omega (arith, made_or_found xs)
made_or_found (Gap c ∷ xs) = omega (arith, made_or_found xs)
made_or_found (Touch c n h ∷ xs) = omega (arith, made_or_found xs)
made_or_found (Make c n b ∷ xs) = omega (arith, made_or_found xs)
made_or_found (Fill c n ∷ xs) = omega (arith, made_or_found xs)

-- what is found isn't made
unmade : (p : RowPart) (c : CellId) (n : NodeId) (b : Bool) (xs : List CellMark) → length (cells_made (embed_cell p c n b ∷ xs)) ≡ length (cells_made xs)
unmade p c n true xs = elim (p.mentioned n) as (λ b. length (cells_made (cond b (Touch c n (how (p.target_of n) (To.Cell c))) Counted ∷ xs)) ≡ length (cells_made xs)) [ true ↦ refl | false ↦ refl ]
unmade p c n false xs = elim (is_here (how (p.target_of n) (To.Cell c))) as (λ b. length (cells_made (cond b (Fill c n) (Gap c) ∷ xs)) ≡ length (cells_made xs)) [ true ↦ refl | false ↦ refl ]

all_made : (p : RowPart) (os : List Owned) (xs : List CellMark) → length (cells_made (embed_made p os ++ xs)) ≡ length os + length (cells_made xs)
all_made p [] xs = omega arith
all_made p (o ∷ os) xs = omega (arith, all_made p os xs)

all_carried : (p : RowPart) (os : List Owned) (ys : List Slot) → length (made_cells p os ++ ys) ≡ length os + length ys
all_carried p [] ys = omega arith
all_carried p (o ∷ os) ys = omega (arith, all_carried p os ys)

room_for : (p : RowPart) {c d : List Slot} → GainsItems SameCell c d → length (cells_made (embed_cells p c)) + length d ≤ length (carried_cells p d)
room_for p no_more = omega arith
room_for p (item_gained {y = t} {ys = d} g) = omega (arith, all_carried p (p.new_cells (Some t.cell)) (carried_cells p d), room_for p g)
room_for p (item_kept {x = s} {y = t} {xs = c} {ys = d} a g) =
    let same : length (p.new_cells (Some s.cell)) ≡ length (p.new_cells (Some t.cell)) = ap (λ x. length (p.new_cells (Some x))) a.0 in
    omega (arith, same, unmade p s.cell s.node s.full (embed_made p (p.new_cells (Some s.cell)) ++ embed_cells p c), all_made p (p.new_cells (Some s.cell)) (embed_cells p c), all_carried p (p.new_cells (Some t.cell)) (carried_cells p d), room_for p g)

pub room_for_row : (p : RowPart) (m : Nodes) {c d : List Slot} (g : GainsItems SameCell c d) → may_list (embed_row p c) (step_row m g) ≤ length (carried_row p d)
room_for_row p m {c} {d} g = omega (arith, all_made p (p.new_cells None) (embed_cells p c), all_carried p (p.new_cells None) (carried_cells p d), made_or_found (step_row m g), length-step_row m g, room_for p g)

pub row_steps_are_short : (m : Nodes) (c d : RowHeld) (s : RowStep) → RowLeadsOver m c.cells d.cells s.marks → length (spread s.marks) < 2 ^ 32
row_steps_are_short m c d s l =
    let e : length (spread s.marks) ≡ length d.cells = ap length (spread_of s.marks (step_row m l.step.grows) l.step.says) ∙ length-step_row m l.step.grows in
    let short = l.after.short in
    omega (arith, e, short)

pub row_changes_are_short : (p : SeqPart) (c : RowHeld) (x : RowChange) → RowFits p c.cells → RowCanHold (row_carried p false c.cells) → x ≡ row_change_of p c.cells → length (spread x.marks) < 2 ^ 32
row_changes_are_short p c x w h e =
    let f : length (spread x.marks) ≡ length (carried_row p.part c.cells) = ap length (spread_of x.marks (embed_row p.part c.cells) (ap (λ y. y.marks) e)) ∙ length-embed_row p.part c.cells in
    let short = h.short in
    omega (arith, f, short)

pub row_has_room : (p : SeqPart) (m : Nodes) (c d : RowHeld) (x : RowChange) (s : RowStep) → RowFits p c.cells → RowFits p d.cells → RowCanHold (row_carried p false d.cells) → x ≡ row_change_of p c.cells → RowLeadsOver m c.cells d.cells s.marks
    → may_list (spread x.marks) (spread s.marks) < 2 ^ 32
row_has_room p m c d x s w v h e l =
    let f : may_list (spread x.marks) (spread s.marks) ≡ may_list (embed_row p.part c.cells) (step_row m l.step.grows) =
    λ i. may_list (spread_of x.marks (embed_row p.part c.cells) (ap (λ y. y.marks) e) i) (spread_of s.marks (step_row m l.step.grows) l.step.says i) in
    let short = h.short in
    omega (arith, f, room_for_row p.part m l.step.grows, short)
