-- A row, taken back over what a step says of it.
use Rattle.std.proofs.Common.{◌≡◌, ◌||◌, Bool, true, false, List, [], ◌∷◌, map, cond, refl, sym, ap, ◌∙◌}
use Rattle.std.specs.List.{list_any}
use Rattle.st_ids.specs.declared.names.NodeId.{NodeId}
use Rattle.st_marks.specs.declared.marks.How.TheVariants.{Stay}
use Rattle.st_marks.specs.declared.places.Slot.{Slot}
use Rattle.st_marks.specs.Embedding.{tells}
use Rattle.st_marks.specs.Extends.{GainsItems, no_more, item_gained, item_kept}
use Rattle.st_marks.specs.Row.{CellMark, Counted, Gap, Touch, Make, Fill, SameCell, step_cell, step_row}
use Rattle.st_read_laws.specs.Reading.{read}
use Rattle.st_author_laws.specs.Back.{cell_as, row_back}

-- the row from which a step leads is the one to which it leads, taken back
pub row_taken_back : (m : NodeId → Bool) {c d : List Slot} (g : GainsItems SameCell c d) → row_back d (step_row m g) ≡ c
row_taken_back m no_more = refl
row_taken_back m (item_gained g) = row_taken_back m g
row_taken_back m (item_kept {x = s} {y = t} {xs = c} {ys = d} same g) = go s.full t.full refl refl (row_taken_back m g)
  where
    same_as : (b : Bool) → t.full ≡ b → s.full ≡ b → t ≡ s
    same_as b f h = λ i. record { cell = sym same.0 i; node = sym same.1 i; full = (f ∙ sym h) i }

    as_before : (b : Bool) → s.full ≡ b → cell_as b t ≡ s
    as_before b f = λ i. record { cell = sym same.0 i; node = sym same.1 i; full = sym f i }

    joined : (u : Slot) → u ≡ s → row_back d (step_row m g) ≡ c → ◌≡◌ {A = List Slot} (u ∷ row_back d (step_row m g)) (s ∷ c)
    joined u e r = λ i. e i ∷ r i

    go : (a b : Bool) → s.full ≡ a → t.full ≡ b → row_back d (step_row m g) ≡ c → row_back (t ∷ d) (step_cell m s.cell s.node a b ∷ step_row m g) ≡ s ∷ c
    go true true f h r = stays (m s.node)
      where
        stays : (z : Bool) → row_back (t ∷ d) (cond z (Touch s.cell s.node Stay) Counted ∷ step_row m g) ≡ s ∷ c
        stays true = joined (cell_as true t) (as_before true f) r
        stays false = joined t (same_as true h f) r
    go true false f h r = joined (cell_as true t) (as_before true f) r
    go false true f h r = joined (cell_as false t) (as_before false f) r
    go false false f h r = joined t (same_as false h f) r

-- which empty cells are named isn't asked
pub row_back-read : (l : Bool) (d : List Slot) (ys : List CellMark) → row_back d (map (read l) ys) ≡ row_back d ys
row_back-read l d [] = refl
row_back-read l [] (y ∷ ys) = refl
row_back-read l (s ∷ d) (Make c n b ∷ ys) = row_back-read l d ys
row_back-read l (s ∷ d) (Counted ∷ ys) = ap (λ (r : List Slot). s ∷ r) (row_back-read l d ys)
row_back-read l (s ∷ d) (Gap c ∷ ys) = gap l (row_back-read l d ys)
  where
    gap : (k : Bool) → row_back d (map (read l) ys) ≡ row_back d ys → row_back (s ∷ d) (read k (Gap c) ∷ map (read l) ys) ≡ s ∷ row_back d ys
    gap true e = ap (λ (r : List Slot). s ∷ r) e
    gap false e = ap (λ (r : List Slot). s ∷ r) e
row_back-read l (s ∷ d) (Touch c n h ∷ ys) = ap (λ (r : List Slot). cell_as true s ∷ r) (row_back-read l d ys)
row_back-read l (s ∷ d) (Fill c n ∷ ys) = ap (λ (r : List Slot). cell_as false s ∷ r) (row_back-read l d ys)

-- a step that tells nothing of a row changes nothing of it
pub quiet_row : (m : NodeId → Bool) {c d : List Slot} (g : GainsItems SameCell c d) → list_any tells (step_row m g) ≡ false → d ≡ c
quiet_row m no_more e = refl
quiet_row m (item_gained g) e = cc
quiet_row m (item_kept {x = s} {y = t} {xs = c} {ys = d} same g) e = go s.full t.full refl refl e (λ f. quiet_row m g f)
  where
    joined : (b : Bool) → s.full ≡ b → t.full ≡ b → d ≡ c → ◌≡◌ {A = List Slot} (t ∷ d) (s ∷ c)
    joined b f h r = λ i. record { cell = sym same.0 i; node = sym same.1 i; full = (h ∙ sym f) i } ∷ r i

    go : (a b : Bool) → s.full ≡ a → t.full ≡ b → (tells (step_cell m s.cell s.node a b) || list_any tells (step_row m g)) ≡ false → (list_any tells (step_row m g) ≡ false → d ≡ c) → ◌≡◌ {A = List Slot} (t ∷ d) (s ∷ c)
    go true true f h q rest = stays (m s.node) q
      where
        stays : (z : Bool) → (tells (cond z (Touch s.cell s.node Stay) Counted) || list_any tells (step_row m g)) ≡ false → ◌≡◌ {A = List Slot} (t ∷ d) (s ∷ c)
        stays true q = cc
        stays false q = joined true f h (rest q)
    go true false f h q rest = cc
    go false true f h q rest = cc
    go false false f h q rest = joined false f h (rest q)
