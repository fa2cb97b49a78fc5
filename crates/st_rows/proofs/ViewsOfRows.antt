-- What listings say of one row, and that they don't differ.
use Rattle.std.proofs.Common.{◌≡◌, ◌≢◌, Bool, true, false, List, [], ◌∷◌, ◌++◌, Option, Some, None, ◌&&◌, option_map, cond, refl, sym, ap, ◌∙◌, ◌+◌, subst}
use Rattle.st_ids.specs.Order.{same_cell, same_node}
use Rattle.st_ids.proofs.Orders.{same_cell-itself, same_node-itself}
use Rattle.st_ids.specs.declared.names.NodeId.{NodeId}
use Rattle.st_marks.specs.declared.intents.Owned.{Owned}
use Rattle.st_marks.specs.declared.intents.To.{To}
use Rattle.st_marks.specs.declared.marks.How.TheVariants.{Stay, Here, Leave}
use Rattle.st_marks.specs.declared.places.Slot.{Slot}
use Rattle.st_marks.specs.Extends.{GainsItems, no_more, item_gained, item_kept}
use Rattle.st_marks.specs.Row.{CellMark, Counted, Gap, Touch, Make, Fill, RowPart, SameCell, how, step_cell, step_row, embed_cell, embed_made, embed_cells, embed_row}
use Rattle.st_marks.specs.How.{is_here}
use Rattle.st_marks.specs.Listings.{CellView, cell_view, counted_view, empty_view, cells_before, cells_after}
use Rattle.st_rows.specs.Cells.{effect_row}
use Rattle.st_rows.specs.Changes.{StandsIn, carried_row}
use Rattle.st_rows.proofs.RowEffects.{effect_row-embed_row, grown_row}
use Rattle.st_rows.specs.Differences.{agree, agree_if_named, same_bool, first_difference}

-- a name that is told is this one
abbrev pub IfTold : {A : Type 0} → Option A → A → Type 0
IfTold None a = Unit {0}
IfTold (Some b) a = b ≡ a

-- what is said of a cell is true of it
abbrev pub Describes : Slot → CellView → Type 0
Describes s x = (x.full ≡ s.full) × IfTold x.cell s.cell × IfTold x.node s.node

abbrev pub DescribeAll : List Slot → List CellView → Type 0
DescribeAll [] [] = Unit {0}
DescribeAll [] (x ∷ xs) = ⊥
DescribeAll (s ∷ c) [] = ⊥
DescribeAll (s ∷ c) (x ∷ xs) = Describes s x × DescribeAll c xs

same_bool-itself : (b : Bool) → same_bool b b ≡ true
same_bool-itself true = refl
same_bool-itself false = refl

told-agree : {A : Type 0} (same : A → A → Bool) → ((a : A) → same a a ≡ true) → (a : A) (x y : Option A) → IfTold x a → IfTold y a → agree_if_named same x y ≡ true
told-agree same h a None y p q = refl
told-agree same h a (Some x) None p q = refl
told-agree same h a (Some x) (Some y) p q = (λ i. same (p i) (q i)) ∙ h a

described-agree : (s : Slot) (x y : CellView) → Describes s x → Describes s y → agree x y ≡ true
described-agree s x y p q =
    let a : same_bool x.full y.full ≡ true = (λ i. same_bool (p.0 i) (q.0 i)) ∙ same_bool-itself s.full in
    let b = told-agree same_cell same_cell-itself s.cell x.cell y.cell p.1 q.1 in
    let c = told-agree same_node same_node-itself s.node x.node y.node p.2 q.2 in
    λ i. (a i && b i) && c i

-- two true listings of one row don't differ
pub no_difference : (c : List Slot) (xs ys : List CellView) → DescribeAll c xs → DescribeAll c ys → first_difference xs ys ≡ None
no_difference [] [] [] p q = refl
no_difference [] [] (y ∷ ys) p q = absurd q
no_difference [] (x ∷ xs) ys p q = absurd p
no_difference (s ∷ c) [] ys p q = absurd p
no_difference (s ∷ c) (x ∷ xs) [] p q = absurd q
no_difference (s ∷ c) (x ∷ xs) (y ∷ ys) p q = rw (described-agree s x y p.0 q.0) (ap (option_map (λ k. k + 1)) (no_difference c xs ys p.1 q.1))

-- ## Steps

before-cell : (m : NodeId → Bool) (s t : Slot) (xs : List CellMark) (c : List Slot) → DescribeAll c (cells_before xs) → DescribeAll (s ∷ c) (cells_before (step_cell m s.cell s.node s.full t.full ∷ xs))
before-cell m s t xs c h = go s.full t.full refl
  where
    go : (a b : Bool) → a ≡ s.full → DescribeAll (s ∷ c) (cells_before (step_cell m s.cell s.node a b ∷ xs))
    go true true e = elim (m s.node) as (λ b. DescribeAll (s ∷ c) (cells_before (cond b (Touch s.cell s.node Stay) Counted ∷ xs))) [ true ↦ ((e, refl, refl), h) | false ↦ ((e, tt, tt), h) ]
    go true false e = ((e, refl, refl), h)
    go false true e = ((e, refl, refl), h)
    go false false e = ((e, refl, tt), h)

-- a step finds the row before it
pub step_finds : (m : NodeId → Bool) {c d : List Slot} (g : GainsItems SameCell c d) → DescribeAll c (cells_before (step_row m g))
step_finds m no_more = tt
step_finds m (item_gained g) = step_finds m g
step_finds m (item_kept {x = s} {y = t} {xs = c} a g) = before-cell m s t (step_row m g) c (step_finds m g)

after-cell : (m : NodeId → Bool) (s t : Slot) (xs : List CellMark) (d : List Slot) → SameCell s t → DescribeAll d (cells_after xs) → DescribeAll (t ∷ d) (cells_after (step_cell m s.cell s.node s.full t.full ∷ xs))
after-cell m s t xs d same h = go s.full t.full refl
  where
    go : (a b : Bool) → b ≡ t.full → DescribeAll (t ∷ d) (cells_after (step_cell m s.cell s.node a b ∷ xs))
    go true true e = elim (m s.node) as (λ b. DescribeAll (t ∷ d) (cells_after (cond b (Touch s.cell s.node Stay) Counted ∷ xs))) [ true ↦ ((e, same.0, same.1), h) | false ↦ ((e, tt, tt), h) ]
    go true false e = ((e, same.0, same.1), h)
    go false true e = ((e, same.0, same.1), h)
    go false false e = ((e, same.0, tt), h)

-- and leaves the row after it
pub step_leaves : (m : NodeId → Bool) {c d : List Slot} (g : GainsItems SameCell c d) → DescribeAll d (cells_after (step_row m g))
step_leaves m no_more = tt
step_leaves m (item_gained {y = t} g) = ((refl, refl, refl), step_leaves m g)
step_leaves m (item_kept {x = s} {y = t} {ys = d} a g) = after-cell m s t (step_row m g) d a (step_leaves m g)

-- ## Changes

made-unfound : (p : RowPart) (os : List Owned) (xs : List CellMark) → cells_before (embed_made p os ++ xs) ≡ cells_before xs
made-unfound p [] xs = refl
made-unfound p (o ∷ os) xs = made-unfound p os xs

found-cell : (p : RowPart) (s : Slot) (xs : List CellMark) (c : List Slot) → DescribeAll c (cells_before xs) → DescribeAll (s ∷ c) (cells_before (embed_cell p s.cell s.node s.full ∷ xs))
found-cell p s xs c h = go s.full refl
  where
    go : (a : Bool) → a ≡ s.full → DescribeAll (s ∷ c) (cells_before (embed_cell p s.cell s.node a ∷ xs))
    go true e = elim (p.mentioned s.node) as (λ b. DescribeAll (s ∷ c) (cells_before (cond b (Touch s.cell s.node (how (p.target_of s.node) (To.Cell s.cell))) Counted ∷ xs))) [ true ↦ ((e, refl, refl), h) | false ↦ ((e, tt, tt), h) ]
    go false e = elim (is_here (how (p.target_of s.node) (To.Cell s.cell))) as (λ b. DescribeAll (s ∷ c) (cells_before (cond b (Fill s.cell s.node) (Gap s.cell) ∷ xs))) [ true ↦ ((e, refl, refl), h) | false ↦ ((e, refl, tt), h) ]

change-cells : (p : RowPart) (c : List Slot) → DescribeAll c (cells_before (embed_cells p c))
change-cells p [] = tt
change-cells p (s ∷ c) = found-cell p s (embed_made p (p.new_cells (Some s.cell)) ++ embed_cells p c) c (subst (DescribeAll c) (sym (made-unfound p (p.new_cells (Some s.cell)) (embed_cells p c))) (change-cells p c))

-- a change finds the row where it stands
pub change_finds : (p : RowPart) (c : List Slot) → DescribeAll c (cells_before (embed_row p c))
change_finds p c = subst (DescribeAll c) (sym (made-unfound p (p.new_cells None) (embed_cells p c))) (change-cells p c)

-- the step of a change shows the same after it
effect_shows : (xs : List CellMark) → cells_after (effect_row xs) ≡ cells_after xs
effect_shows [] = refl
effect_shows (Counted ∷ xs) = ap (λ l. counted_view ∷ l) (effect_shows xs)
effect_shows (Gap c ∷ xs) = ap (λ l. empty_view c ∷ l) (effect_shows xs)
effect_shows (Touch c n Stay ∷ xs) = ap (λ l. cell_view c n true ∷ l) (effect_shows xs)
effect_shows (Touch c n Here ∷ xs) = ap (λ l. cell_view c n true ∷ l) (effect_shows xs)
effect_shows (Touch c n Leave ∷ xs) = ap (λ l. cell_view c n false ∷ l) (effect_shows xs)
effect_shows (Make c n b ∷ xs) = ap (λ l. cell_view c n b ∷ l) (effect_shows xs)
effect_shows (Fill c n ∷ xs) = ap (λ l. cell_view c n true ∷ l) (effect_shows xs)

-- a change leaves the row after it
pub change_leaves : (p : RowPart) (c : List Slot) → ((n : NodeId) → StandsIn n c → p.target_of n ≢ None → p.mentioned n ≡ true) → DescribeAll (carried_row p c) (cells_after (embed_row p c))
change_leaves p c h = subst (DescribeAll (carried_row p c)) (ap cells_after (sym (effect_row-embed_row p c h)) ∙ effect_shows (embed_row p c)) (step_leaves p.mentioned (grown_row p c))
