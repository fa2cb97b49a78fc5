-- What the marks of a row over a step say of who leaves it and who comes in, cell by cell.
use Rattle.std.proofs.Common.{◌≡◌, ℕ, zero, suc, Bool, true, false, cond, List, [], ◌∷◌, map, Option, Some, None, refl, sym, ap, ◌∙◌, inl, inr, ◌⊎◌, ◌||◌}
use Rattle.std.specs.List.{cons_option, filter_map, list_any}
use Rattle.st_ids.specs.Listing.{Has}
use Rattle.st_ids.specs.declared.names.CellId.{CellId}
use Rattle.st_ids.specs.declared.names.NodeId.{NodeId}
use Rattle.st_marks.specs.declared.marks.How.TheVariants.{Stay, Here, Leave}
use Rattle.st_marks.specs.declared.marks.Mark.{Mark}
use Rattle.st_marks.specs.declared.places.Slot.{Slot}
use Rattle.st_marks.specs.declared.places.Spot.{Spot}
use Rattle.st_marks.specs.Embedding.{tells}
use Rattle.st_marks.specs.Extends.{GainsItems, no_more, item_gained, item_kept}
use Rattle.st_marks.specs.Row.{CellMark, Counted, Gap, Touch, Make, Fill, SameCell, counted_cells, merge, skip_one, spread, step_cell, step_row}
use Rattle.st_read_laws.specs.Reading.{read, read_marks}
use Rattle.st_read_laws.proofs.Readings.{spread-read}
use Rattle.st_forest.specs.inside.Writes.{seat_by}

-- whom a cell's mark takes out of the row, and whom it puts into it
abbrev pub seat_at : Bool → NodeId → CellMark → Option (NodeId × Spot)
seat_at b r Counted = None
seat_at b r (Gap c) = None
seat_at b r (Touch c n Stay) = None
seat_at b r (Touch c n Here) = None
seat_at true r (Touch c n Leave) = None
seat_at false r (Touch c n Leave) = Some (n, Spot.Nowhere)
seat_at b r (Make c n false) = None
seat_at true r (Make c n true) = Some (n, Spot.Row r c)
seat_at false r (Make c n true) = None
seat_at true r (Fill c n) = Some (n, Spot.Row r c)
seat_at false r (Fill c n) = None

abbrev pub Seats : Type 0
Seats = List (NodeId × Spot)

-- ## Marks, cell by cell

counted_seats : (b : Bool) (r : NodeId) (k : ℕ) (xs : List CellMark) → filter_map (seat_at b r) (counted_cells k xs) ≡ filter_map (seat_at b r) xs
counted_seats b r zero xs = refl
counted_seats true r (suc k) xs = counted_seats true r k xs
counted_seats false r (suc k) xs = counted_seats false r k xs

pub marks_seats : (b : Bool) (r : NodeId) (ms : List Mark) → filter_map (seat_by b r) ms ≡ filter_map (seat_at b r) (spread ms)
marks_seats b r [] = refl
marks_seats true r (Mark.Skip k ∷ ms) = marks_seats true r ms ∙ sym (counted_seats true r k (spread ms))
marks_seats false r (Mark.Skip k ∷ ms) = marks_seats false r ms ∙ sym (counted_seats false r k (spread ms))
marks_seats true r (Mark.Gap c ∷ ms) = marks_seats true r ms
marks_seats false r (Mark.Gap c ∷ ms) = marks_seats false r ms
marks_seats true r (Mark.Touch c n Stay ∷ ms) = marks_seats true r ms
marks_seats false r (Mark.Touch c n Stay ∷ ms) = marks_seats false r ms
marks_seats true r (Mark.Touch c n Here ∷ ms) = marks_seats true r ms
marks_seats false r (Mark.Touch c n Here ∷ ms) = marks_seats false r ms
marks_seats true r (Mark.Touch c n Leave ∷ ms) = marks_seats true r ms
marks_seats false r (Mark.Touch c n Leave ∷ ms) = ap (λ l. (n, Spot.Nowhere) ∷ l) (marks_seats false r ms)
marks_seats true r (Mark.Make c n true ∷ ms) = ap (λ l. (n, Spot.Row r c) ∷ l) (marks_seats true r ms)
marks_seats false r (Mark.Make c n true ∷ ms) = marks_seats false r ms
marks_seats true r (Mark.Make c n false ∷ ms) = marks_seats true r ms
marks_seats false r (Mark.Make c n false ∷ ms) = marks_seats false r ms
marks_seats true r (Mark.Fill c n ∷ ms) = ap (λ l. (n, Spot.Row r c) ∷ l) (marks_seats true r ms)
marks_seats false r (Mark.Fill c n ∷ ms) = marks_seats false r ms

read_seat : (b l : Bool) (r : NodeId) (x : CellMark) → seat_at b r (read l x) ≡ seat_at b r x
read_seat b l r Counted = refl
read_seat true true r (Gap c) = refl
read_seat true false r (Gap c) = refl
read_seat false true r (Gap c) = refl
read_seat false false r (Gap c) = refl
read_seat b l r (Touch c n h) = refl
read_seat b l r (Make c n f) = refl
read_seat b l r (Fill c n) = refl

mapped : {A B : Type 0} (f : A → Option B) (g : A → A) (same : (x : A) → f (g x) ≡ f x) (xs : List A) → filter_map f (map g xs) ≡ filter_map f xs
mapped f g same [] = refl
mapped f g same (x ∷ xs) = λ i. cons_option (same x i) (mapped f g same xs i)

-- counted neighbours are one mark
skipped : (ms : List Mark) → spread (skip_one ms) ≡ Counted ∷ spread ms
skipped [] = refl
skipped (Mark.Skip k ∷ ms) = refl
skipped (Mark.Gap c ∷ ms) = refl
skipped (Mark.Touch c n h ∷ ms) = refl
skipped (Mark.Make c n b ∷ ms) = refl
skipped (Mark.Fill c n ∷ ms) = refl

pub spread-merge : (cells : List CellMark) → spread (merge cells) ≡ cells
spread-merge [] = refl
spread-merge (Counted ∷ ms) = skipped (merge ms) ∙ ap (λ l. Counted ∷ l) (spread-merge ms)
spread-merge (Gap c ∷ ms) = ap (λ l. Gap c ∷ l) (spread-merge ms)
spread-merge (Touch c n h ∷ ms) = ap (λ l. Touch c n h ∷ l) (spread-merge ms)
spread-merge (Make c n b ∷ ms) = ap (λ l. Make c n b ∷ l) (spread-merge ms)
spread-merge (Fill c n ∷ ms) = ap (λ l. Fill c n ∷ l) (spread-merge ms)

-- those of a row's marks, which name empty cells or count them, are those of its cells
pub row_seats : (b l : Bool) (r : NodeId) (xs : List CellMark) → filter_map (seat_by b r) (read_marks l (merge xs)) ≡ filter_map (seat_at b r) xs
row_seats b l r xs =
    marks_seats b r (read_marks l (merge xs))
    ∙ ap (filter_map (seat_at b r)) (spread-read l (merge xs) ∙ ap (map (read l)) (spread-merge xs))
    ∙ mapped (seat_at b r) (read l) (read_seat b l r) xs

-- ## The row over the step

-- a node's cell, full or not
abbrev at : CellId → NodeId → Bool → Slot
at a n b = record { cell = a; node = n; full = b }

module _ (m : NodeId → Bool) (r n : NodeId) where
  abbrev Come : Spot → {c d : List Slot} → GainsItems SameCell c d → Type 0
  Come t g = Has (filter_map (seat_at true r) (step_row m g)) (n, t)

  abbrev Gone : Spot → {c d : List Slot} → GainsItems SameCell c d → Type 0
  Gone t g = Has (filter_map (seat_at false r) (step_row m g)) (n, t)

  abbrev Came : Spot → List Slot → Type 0
  Came t d = (a : CellId) × (t ≡ Spot.Row r a) × Has d (at a n true)

  abbrev Left : Spot → List Slot → List Slot → Type 0
  Left t c d = (t ≡ Spot.Nowhere) × (a : CellId) × Has c (at a n true) × Has d (at a n false)

  -- who comes is there after it
  pub came : (t : Spot) {c d : List Slot} (g : GainsItems SameCell c d) → Come t g → Came t d
  came t no_more h = absurd h
  came t (item_gained {y} {xs = c} {ys = q} g) h = go (λ j. came t g j) y.full refl h
    where
      go : (Come t g → Came t q) → (f : Bool) → y.full ≡ f → Has (cons_option (seat_at true r (Make y.cell y.node f)) (filter_map (seat_at true r) (step_row m g))) (n, t) → Came t (y ∷ q)
      go rest true e (inl s) = (y.cell, sym (ap (λ (w : NodeId × Spot). w.1) s), inl (λ i. at y.cell ((s i).0) (e i)))
      go rest true e (inr j) = let k = rest j in (k.0, k.1, inr k.2)
      go rest false e j = let k = rest j in (k.0, k.1, inr k.2)
  came t (item_kept {x} {y} {xs = p} {ys = q} same g) h = go (λ j. let k = came t g j in (k.0, k.1, inr k.2)) x.full y.full refl h
    where
      stays : (Come t g → Came t (y ∷ q)) → (w : Bool) → Has (cons_option (seat_at true r (cond w (Touch x.cell x.node Stay) Counted)) (filter_map (seat_at true r) (step_row m g))) (n, t) → Came t (y ∷ q)
      stays past true j = past j
      stays past false j = past j

      go : (Come t g → Came t (y ∷ q)) → (a b : Bool) → y.full ≡ b → Has (cons_option (seat_at true r (step_cell m x.cell x.node a b)) (filter_map (seat_at true r) (step_row m g))) (n, t) → Came t (y ∷ q)
      go past true true e j = stays past (m x.node) j
      go past true false e j = past j
      go past false true e (inl s) = (x.cell, sym (ap (λ (w : NodeId × Spot). w.1) s), inl (λ i. at (sym same.0 i) ((sym same.1 ∙ ap (λ (w : NodeId × Spot). w.0) s) i) (e i)))
      go past false true e (inr j) = past j
      go past false false e j = past j

  -- who leaves is there before it, and not after it
  pub left : (t : Spot) {c d : List Slot} (g : GainsItems SameCell c d) → Gone t g → Left t c d
  left t no_more h = absurd h
  left t (item_gained {y} {xs = c} {ys = q} g) h = go (λ j. left t g j) y.full h
    where
      go : (Gone t g → Left t c q) → (f : Bool) → Has (cons_option (seat_at false r (Make y.cell y.node f)) (filter_map (seat_at false r) (step_row m g))) (n, t) → Left t c (y ∷ q)
      go rest true j = let k = rest j in (k.0, k.1, k.2, inr k.3)
      go rest false j = let k = rest j in (k.0, k.1, k.2, inr k.3)
  left t (item_kept {x} {y} {xs = p} {ys = q} same g) h = go (λ j. let k = left t g j in (k.0, k.1, inr k.2, inr k.3)) x.full y.full refl refl h
    where
      stays : (Gone t g → Left t (x ∷ p) (y ∷ q)) → (w : Bool) → Has (cons_option (seat_at false r (cond w (Touch x.cell x.node Stay) Counted)) (filter_map (seat_at false r) (step_row m g))) (n, t) → Left t (x ∷ p) (y ∷ q)
      stays past true j = past j
      stays past false j = past j

      go : (Gone t g → Left t (x ∷ p) (y ∷ q)) → (a b : Bool) → x.full ≡ a → y.full ≡ b → Has (cons_option (seat_at false r (step_cell m x.cell x.node a b)) (filter_map (seat_at false r) (step_row m g))) (n, t) → Left t (x ∷ p) (y ∷ q)
      go past true true e f j = stays past (m x.node) j
      go past true false e f (inl s) = (
        sym (ap (λ (w : NodeId × Spot). w.1) s),
        x.cell,
        inl (λ i. at x.cell ((s i).0) (e i)),
        inl (λ i. at (sym same.0 i) ((sym same.1 ∙ ap (λ (w : NodeId × Spot). w.0) s) i) (f i)),
      )
      go past true false e f (inr j) = past j
      go past false true e f j = past j
      go past false false e f j = past j

  -- who is there after it was there, or is told to come
  pub comes : (a : CellId) {c d : List Slot} (g : GainsItems SameCell c d) → Has d (at a n true) → Has c (at a n true) ⊎ Come (Spot.Row r a) g
  comes a no_more h = absurd h
  comes a (item_gained {y} {xs = c} {ys = q} g) h = go (λ j. comes a g j) y.full refl h
    where
      go : (Has q (at a n true) → Has c (at a n true) ⊎ Come (Spot.Row r a) g) → (f : Bool) → y.full ≡ f → Has (y ∷ q) (at a n true)
          → Has c (at a n true) ⊎ Has (cons_option (seat_at true r (Make y.cell y.node f)) (filter_map (seat_at true r) (step_row m g))) (n, Spot.Row r a)
      go rest true e (inl s) = inr (inl (λ i. ((s i).node, Spot.Row r ((s i).cell))))
      go rest true e (inr j) = elim (rest j) [ inl k ↦ inl k | inr k ↦ inr (inr k) ]
      go rest false e (inl s) = absurd (let bad : ◌≡◌ {A = Bool} false true = sym e ∙ ap (λ (z : Slot). z.full) s in cc)
      go rest false e (inr j) = rest j
  comes a (item_kept {x} {y} {xs = p} {ys = q} same g) h = go (λ j. comes a g j) x.full y.full refl refl h
    where
      stays : (w : Bool) → Come (Spot.Row r a) g → Has (cons_option (seat_at true r (cond w (Touch x.cell x.node Stay) Counted)) (filter_map (seat_at true r) (step_row m g))) (n, Spot.Row r a)
      stays true k = k
      stays false k = k

      past : Has p (at a n true) ⊎ Come (Spot.Row r a) g → (u v : Bool) → Has (x ∷ p) (at a n true) ⊎ Has (cons_option (seat_at true r (step_cell m x.cell x.node u v)) (filter_map (seat_at true r) (step_row m g))) (n, Spot.Row r a)
      past (inl k) u v = inl (inr k)
      past (inr k) true true = inr (stays (m x.node) k)
      past (inr k) true false = inr k
      past (inr k) false true = inr (inr k)
      past (inr k) false false = inr k

      go : (Has q (at a n true) → Has p (at a n true) ⊎ Come (Spot.Row r a) g) → (u v : Bool) → x.full ≡ u → y.full ≡ v → Has (y ∷ q) (at a n true)
          → Has (x ∷ p) (at a n true) ⊎ Has (cons_option (seat_at true r (step_cell m x.cell x.node u v)) (filter_map (seat_at true r) (step_row m g))) (n, Spot.Row r a)
      go rest u v e f (inr j) = past (rest j) u v
      go rest true v e f (inl s) = inl (inl (λ i. at ((same.0 ∙ ap (λ (z : Slot). z.cell) s) i) ((same.1 ∙ ap (λ (z : Slot). z.node) s) i) (e i)))
      go rest false true e f (inl s) = inr (inl (λ i. ((same.1 ∙ ap (λ (z : Slot). z.node) s) i, Spot.Row r ((same.0 ∙ ap (λ (z : Slot). z.cell) s) i))))
      go rest false false e f (inl s) = absurd (let bad : ◌≡◌ {A = Bool} false true = sym f ∙ ap (λ (z : Slot). z.full) s in cc)

  -- who was there is there after it, or is told to leave
  pub leaves : (a : CellId) {c d : List Slot} (g : GainsItems SameCell c d) → Has c (at a n true) → Has d (at a n true) ⊎ Gone Spot.Nowhere g
  leaves a no_more h = absurd h
  leaves a (item_gained {y} {xs = c} {ys = q} g) h = go y.full (leaves a g h)
    where
      go : (f : Bool) → Has q (at a n true) ⊎ Gone Spot.Nowhere g → Has (y ∷ q) (at a n true) ⊎ Has (cons_option (seat_at false r (Make y.cell y.node f)) (filter_map (seat_at false r) (step_row m g))) (n, Spot.Nowhere)
      go f (inl k) = inl (inr k)
      go true (inr k) = inr k
      go false (inr k) = inr k
  leaves a (item_kept {x} {y} {xs = p} {ys = q} same g) h = go (λ j. leaves a g j) x.full y.full refl refl h
    where
      stays : (w : Bool) → Gone Spot.Nowhere g → Has (cons_option (seat_at false r (cond w (Touch x.cell x.node Stay) Counted)) (filter_map (seat_at false r) (step_row m g))) (n, Spot.Nowhere)
      stays true k = k
      stays false k = k

      past : Has q (at a n true) ⊎ Gone Spot.Nowhere g → (u v : Bool) → Has (y ∷ q) (at a n true) ⊎ Has (cons_option (seat_at false r (step_cell m x.cell x.node u v)) (filter_map (seat_at false r) (step_row m g))) (n, Spot.Nowhere)
      past (inl k) u v = inl (inr k)
      past (inr k) true true = inr (stays (m x.node) k)
      past (inr k) true false = inr (inr k)
      past (inr k) false true = inr k
      past (inr k) false false = inr k

      go : (Has p (at a n true) → Has q (at a n true) ⊎ Gone Spot.Nowhere g) → (u v : Bool) → x.full ≡ u → y.full ≡ v → Has (x ∷ p) (at a n true)
          → Has (y ∷ q) (at a n true) ⊎ Has (cons_option (seat_at false r (step_cell m x.cell x.node u v)) (filter_map (seat_at false r) (step_row m g))) (n, Spot.Nowhere)
      go rest u v e f (inr j) = past (rest j) u v
      go rest true true e f (inl s) = inl (inl (λ i. at ((sym same.0 ∙ ap (λ (z : Slot). z.cell) s) i) ((sym same.1 ∙ ap (λ (z : Slot). z.node) s) i) (f i)))
      go rest true false e f (inl s) = inr (inl (λ i. ((s i).node, Spot.Nowhere)))
      go rest false v e f (inl s) = absurd (let bad : ◌≡◌ {A = Bool} false true = sym e ∙ ap (λ (z : Slot). z.full) s in cc)

-- ## Rows of which nothing is told

any-false : (a b : Bool) → (a || b) ≡ false → (a ≡ false) × (b ≡ false)
any-false false b e = (refl, e)
any-false true b e = cc

module _ (m : NodeId → Bool) where
  -- they stay
  pub untold : {c d : List Slot} (g : GainsItems SameCell c d) → list_any tells (step_row m g) ≡ false → c ≡ d
  untold no_more e = refl
  untold (item_gained g) e = cc
  untold (item_kept {x} {y} {xs = p} {ys = q} same g) e =
      let k = any-false (tells (step_cell m x.cell x.node x.full y.full)) (list_any tells (step_row m g)) e in
      let rest = untold g k.1 in
      let full = go x.full y.full k.0 in
      (λ i. at (same.0 i) (same.1 i) (full i) ∷ rest i)
    where
      go : (u v : Bool) → tells (step_cell m x.cell x.node u v) ≡ false → u ≡ v
      go true true e = refl
      go true false e = cc
      go false true e = cc
      go false false e = refl

  -- whoever comes or leaves is told
  pub told : (b : Bool) (r : NodeId) (w : NodeId × Spot) (xs : List CellMark) → Has (filter_map (seat_at b r) xs) w → list_any tells xs ≡ true
  told b r w [] h = absurd h
  told true r w (Counted ∷ xs) h = told true r w xs h
  told false r w (Counted ∷ xs) h = told false r w xs h
  told true r w (Gap c ∷ xs) h = told true r w xs h
  told false r w (Gap c ∷ xs) h = told false r w xs h
  told b r w (Touch c n h ∷ xs) i = refl
  told b r w (Make c n f ∷ xs) i = refl
  told b r w (Fill c n ∷ xs) i = refl
