-- A row with its empty cells named again says what it said before they were counted.
use Rattle.std.proofs.Common.{◌≡◌, Bool, true, false, List, [], ◌∷◌, ◌++◌, Some, None, map, cond, refl, sym, ap, ◌∙◌}
use Rattle.st_ids.specs.declared.names.CellId.{CellId}
use Rattle.st_ids.specs.declared.names.NodeId.{NodeId}
use Rattle.st_marks.specs.declared.intents.Owned.{Owned}
use Rattle.st_marks.specs.declared.intents.To.{To}
use Rattle.st_marks.specs.declared.marks.How.TheVariants.{Stay}
use Rattle.st_marks.specs.declared.places.Slot.{Slot}
use Rattle.st_marks.specs.Extends.{GainsItems, no_more, item_gained, item_kept}
use Rattle.st_marks.specs.How.{is_here}
use Rattle.st_marks.specs.Row.{CellMark, Counted, Gap, Touch, Make, Fill, RowPart, SameCell, how, step_cell, step_row, embed_cell, embed_made, embed_cells, embed_row}
use Rattle.st_mention_laws.specs.Shown.{unnamed}
use Rattle.st_rows.specs.Walks.{in_turn}
use Rattle.st_listed.specs.Named.{slot_mark, named_mark, change_piece, step_piece, named_change, named_step}

-- ## It isn't seen which empty cells were named

named-blind : (s x : CellMark) → named_mark s (unnamed x) ≡ named_mark s x
named-blind s Counted = refl
named-blind s (Gap c) = refl
named-blind s (Touch c n h) = refl
named-blind s (Make c n b) = refl
named-blind s (Fill c n) = refl

change-blind : (ys xs : List CellMark) → map change_piece (in_turn ys (map unnamed xs)) ≡ map change_piece (in_turn ys xs)
change-blind ys [] = refl
change-blind ys (Make c n b ∷ xs) = ap (λ l. Make c n b ∷ l) (change-blind ys xs)
change-blind [] (Counted ∷ xs) = refl
change-blind [] (Gap c ∷ xs) = refl
change-blind [] (Touch c n h ∷ xs) = refl
change-blind [] (Fill c n ∷ xs) = refl
change-blind (y ∷ ys) (Counted ∷ xs) = ap (λ l. y ∷ l) (change-blind ys xs)
change-blind (y ∷ ys) (Gap c ∷ xs) = ap (λ l. y ∷ l) (change-blind ys xs)
change-blind (y ∷ ys) (Touch c n h ∷ xs) = ap (λ l. Touch c n h ∷ l) (change-blind ys xs)
change-blind (y ∷ ys) (Fill c n ∷ xs) = ap (λ l. Fill c n ∷ l) (change-blind ys xs)

pub named_change-counted : (c : List Slot) (xs ws : List CellMark) → map unnamed xs ≡ map unnamed ws → named_change c xs ≡ named_change c ws
named_change-counted c xs ws e = sym (change-blind (map slot_mark c) xs) ∙ ap (λ l. map change_piece (in_turn (map slot_mark c) l)) e ∙ change-blind (map slot_mark c) ws

-- a slot makes no cell
turn_one : (x : CellMark) (xs : List CellMark) (s : Slot) (ys : List CellMark) → map step_piece (in_turn (x ∷ xs) (slot_mark s ∷ ys)) ≡ named_mark (slot_mark s) x ∷ map step_piece (in_turn xs ys)
turn_one x xs s ys =
    elim s.full as (λ b. map step_piece (in_turn (x ∷ xs) (cond b Counted (Gap s.cell) ∷ ys)) ≡ named_mark (cond b Counted (Gap s.cell)) x ∷ map step_piece (in_turn xs ys)) [ true ↦ refl | false ↦ refl ]

turn_none : (s : Slot) (ys : List CellMark) → map step_piece (in_turn [] (slot_mark s ∷ ys)) ≡ []
turn_none s ys = elim s.full as (λ b. map step_piece (in_turn [] (cond b Counted (Gap s.cell) ∷ ys)) ≡ []) [ true ↦ refl | false ↦ refl ]

step-blind : (d : List Slot) (xs : List CellMark) → named_step d (map unnamed xs) ≡ named_step d xs
step-blind [] xs = refl
step-blind (s ∷ d) [] = refl
step-blind (s ∷ d) (x ∷ xs) =
    turn_one (unnamed x) (map unnamed xs) s (map slot_mark d)
    ∙ (λ i. named-blind (slot_mark s) x i ∷ step-blind d xs i)
    ∙ sym (turn_one x xs s (map slot_mark d))

pub named_step-counted : (d : List Slot) (xs ws : List CellMark) → map unnamed xs ≡ map unnamed ws → named_step d xs ≡ named_step d ws
named_step-counted d xs ws e = sym (step-blind d xs) ∙ ap (named_step d) e ∙ step-blind d ws

-- ## A change

change_one : (p : RowPart) (y : CellMark) (ys : List CellMark) (c : CellId) (n : NodeId) (b : Bool) (xs : List CellMark) → map change_piece (in_turn (y ∷ ys) (embed_cell p c n b ∷ xs)) ≡ named_mark y (embed_cell p c n b) ∷ map change_piece (in_turn ys xs)
change_one p y ys c n true xs =
    elim (p.mentioned n) as (λ b. map change_piece (in_turn (y ∷ ys) (cond b (Touch c n (how (p.target_of n) (To.Cell c))) Counted ∷ xs)) ≡ named_mark y (cond b (Touch c n (how (p.target_of n) (To.Cell c))) Counted) ∷ map change_piece (in_turn ys xs)) [ true ↦ refl | false ↦ refl ]
change_one p y ys c n false xs =
    elim (is_here (how (p.target_of n) (To.Cell c))) as (λ b. map change_piece (in_turn (y ∷ ys) (cond b (Fill c n) (Gap c) ∷ xs)) ≡ named_mark y (cond b (Fill c n) (Gap c)) ∷ map change_piece (in_turn ys xs)) [ true ↦ refl | false ↦ refl ]

cell_named : (p : RowPart) (c : CellId) (n : NodeId) (b : Bool) → named_mark (cond b Counted (Gap c)) (embed_cell p c n b) ≡ embed_cell p c n b
cell_named p c n true =
    elim (p.mentioned n) as (λ b. named_mark Counted (cond b (Touch c n (how (p.target_of n) (To.Cell c))) Counted) ≡ cond b (Touch c n (how (p.target_of n) (To.Cell c))) Counted) [ true ↦ refl | false ↦ refl ]
cell_named p c n false =
    elim (is_here (how (p.target_of n) (To.Cell c))) as (λ b. named_mark (Gap c) (cond b (Fill c n) (Gap c)) ≡ cond b (Fill c n) (Gap c)) [ true ↦ refl | false ↦ refl ]

made_first : (p : RowPart) (ys : List CellMark) (os : List Owned) (xs : List CellMark) → map change_piece (in_turn ys (embed_made p os ++ xs)) ≡ embed_made p os ++ map change_piece (in_turn ys xs)
made_first p ys [] xs = refl
made_first p ys (o ∷ os) xs = ap (λ l. Make o.cell o.node (is_here (how (p.target_of o.node) (To.Cell o.cell))) ∷ l) (made_first p ys os xs)

cells_named : (p : RowPart) (c : List Slot) → named_change c (embed_cells p c) ≡ embed_cells p c
cells_named p [] = refl
cells_named p (s ∷ c) =
    change_one p (slot_mark s) (map slot_mark c) s.cell s.node s.full (embed_made p (p.new_cells (Some s.cell)) ++ embed_cells p c)
    ∙ (λ i. cell_named p s.cell s.node s.full i ∷ (made_first p (map slot_mark c) (p.new_cells (Some s.cell)) (embed_cells p c) ∙ ap (λ l. embed_made p (p.new_cells (Some s.cell)) ++ l) (cells_named p c)) i)

pub row_of_change : (p : RowPart) (c : List Slot) → named_change c (embed_row p c) ≡ embed_row p c
row_of_change p c = made_first p (map slot_mark c) (p.new_cells None) (embed_cells p c) ∙ ap (λ l. embed_made p (p.new_cells None) ++ l) (cells_named p c)

-- ## A step

left_named : (m : NodeId → Bool) (c e : CellId) (n : NodeId) (a b : Bool) → c ≡ e → named_mark (cond b Counted (Gap e)) (step_cell m c n a b) ≡ step_cell m c n a b
left_named m c e n true true q = elim (m n) as (λ b. named_mark Counted (cond b (Touch c n Stay) Counted) ≡ cond b (Touch c n Stay) Counted) [ true ↦ refl | false ↦ refl ]
left_named m c e n true false q = refl
left_named m c e n false true q = refl
left_named m c e n false false q = ap (λ z. Gap z) (sym q)

pub row_of_step : (m : NodeId → Bool) {c d : List Slot} (g : GainsItems SameCell c d) → named_step d (step_row m g) ≡ step_row m g
row_of_step m no_more = refl
row_of_step m (item_gained {y = t} g) =
    turn_one (Make t.cell t.node t.full) (step_row m g) t _ ∙ ap (λ l. Make t.cell t.node t.full ∷ l) (row_of_step m g)
row_of_step m (item_kept {x = s} {y = t} same g) =
    turn_one (step_cell m s.cell s.node s.full t.full) (step_row m g) t _ ∙ (λ i. left_named m s.cell t.cell s.node s.full t.full same.0 i ∷ row_of_step m g i)
