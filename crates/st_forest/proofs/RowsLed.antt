-- A row that is changed mark by mark.
use Rattle.std.proofs.Common.{◌≡◌, ℕ, zero, suc, ◌+◌, ◌<◌, ◌≤◌, ◌^◌, min, Bool, true, false, cond, List, [], ◌∷◌, ◌++◌, length, get_or, take, drop, map, refl, sym, ap, ◌∙◌, subst, arith, append_assoc, append-nil, length-append, take-append-drop}
use Rattle.std.proofs.lemmas.List.{length-take-le}
use Rattle.std.proofs.Math.Nat.{min-eq_left}
use Rattle.std.proofs.Math.Seq.{drop-append-add, drop-cons, take-append-add}
use Rattle.st_chunks.specs.Slots.{with_full}
use Rattle.st_ids.specs.declared.names.CellId.{CellId}
use Rattle.st_ids.specs.declared.names.NodeId.{NodeId}
use Rattle.st_marks.specs.declared.marks.How.{How}
use Rattle.st_marks.specs.declared.marks.How.TheVariants.{Stay, Here, Leave}
use Rattle.st_marks.specs.declared.marks.Mark.{Mark}
use Rattle.st_marks.specs.declared.places.Slot.{Slot}
use Rattle.st_marks.specs.Extends.{GainsItems, no_more, item_gained, item_kept}
use Rattle.st_marks.specs.Row.{CellMark, Counted, Gap, Touch, Make, Fill, SameCell, counted_cells, spread, step_cell, step_row}
use Rattle.st_read_laws.specs.Reading.{read}
use Rattle.st_forest.specs.RowSteps.{Leads}

-- ## One cell

-- a slot, full or not
abbrev pub full_as : Slot → Bool → Slot
full_as s b = record { cell = s.cell; node = s.node; full = b }

-- whether a cell that a mark finds is full behind it
abbrev pub full_behind : CellMark → Bool → Bool
full_behind Counted b = b
full_behind (Gap c) b = b
full_behind (Touch c n Stay) b = b
full_behind (Touch c n Here) b = b
full_behind (Touch c n Leave) b = false
full_behind (Make c n a) b = b
full_behind (Fill c n) b = true

-- the cell is found, and is full behind the mark as that says
record Found (z : CellMark) (xs : List CellMark) (c d : List Slot) : Type 0 where
  pub slot : Slot
  pub before : List Slot
  pub behind : List Slot
  pub there : c ≡ slot ∷ before
  pub then : d ≡ full_as slot (full_behind z slot.full) ∷ behind
  pub rest : Leads before xs behind

-- the cell is made
record Made (s : Slot) (xs : List CellMark) (c d : List Slot) : Type 0 where
  pub behind : List Slot
  pub then : d ≡ s ∷ behind
  pub rest : Leads c xs behind

abbrev OneCell : CellMark → List CellMark → List Slot → List Slot → Type 0
OneCell Counted xs c d = Found Counted xs c d
OneCell (Gap a) xs c d = Found (Gap a) xs c d
OneCell (Touch a n h) xs c d = Found (Touch a n h) xs c d
OneCell (Make a n b) xs c d = Made (record { cell = a; node = n; full = b }) xs c d
OneCell (Fill a n) xs c d = Found (Fill a n) xs c d

head_of : (x y : CellMark) (xs ys : List CellMark) → x ∷ xs ≡ y ∷ ys → x ≡ y
head_of x y xs ys e = cc

tail_of : (x y : CellMark) (xs ys : List CellMark) → x ∷ xs ≡ y ∷ ys → xs ≡ ys
tail_of x y xs ys e = cc

-- a slot that is the same cell, full or not
slot_is : (x y : Slot) (b : Bool) → SameCell x y → y.full ≡ b → y ≡ full_as x b
slot_is x y b same e = λ i. record { cell = sym same.0 i; node = sym same.1 i; full = e i }

module _ (m : NodeId → Bool) (x y : Slot) (p q : List Slot) (g : GainsItems SameCell p q) (same : SameCell x y) (xs : List CellMark) (e : map (read false) xs ≡ map (read false) (step_row m g)) where
  found : (z : CellMark) → full_as y y.full ≡ full_as x (full_behind z x.full) → Found z xs (x ∷ p) (y ∷ q)
  found z h = record { slot = x; before = p; behind = q; there = refl; then = ap (λ s. s ∷ q) h; rest = (m, g, e) }

  turned_to : (b : Bool) → y.full ≡ b → full_as y y.full ≡ full_as x b
  turned_to b f = slot_is x y b same f

  -- a cell that stays as it is
  stays : (b : Bool) (z : CellMark) → x.full ≡ b → y.full ≡ b → full_behind z x.full ≡ x.full → Found z xs (x ∷ p) (y ∷ q)
  stays b z f h k = found z (turned_to (full_behind z x.full) (h ∙ sym f ∙ sym k))

  kept_true : (z : CellMark) (w : Bool) → x.full ≡ true → y.full ≡ true → read false z ≡ read false (cond w (Touch x.cell x.node Stay) Counted) → OneCell z xs (x ∷ p) (y ∷ q)
  kept_true Counted w f h k = stays true Counted f h refl
  kept_true (Gap a) w f h k = stays true (Gap a) f h refl
  kept_true (Touch a n Stay) w f h k = stays true (Touch a n Stay) f h refl
  kept_true (Touch a n Here) w f h k = stays true (Touch a n Here) f h refl
  kept_true (Touch a n Leave) true f h k = cc
  kept_true (Touch a n Leave) false f h k = cc
  kept_true (Make a n b) true f h k = cc
  kept_true (Make a n b) false f h k = cc
  kept_true (Fill a n) true f h k = cc
  kept_true (Fill a n) false f h k = cc

  left : (z : CellMark) → y.full ≡ false → read false z ≡ Touch x.cell x.node Leave → OneCell z xs (x ∷ p) (y ∷ q)
  left Counted h k = cc
  left (Gap a) h k = cc
  left (Touch a n Stay) h k = cc
  left (Touch a n Here) h k = cc
  left (Touch a n Leave) h k = found (Touch a n Leave) (turned_to false h)
  left (Make a n b) h k = cc
  left (Fill a n) h k = cc

  filled : (z : CellMark) → y.full ≡ true → read false z ≡ Fill x.cell x.node → OneCell z xs (x ∷ p) (y ∷ q)
  filled Counted h k = cc
  filled (Gap a) h k = cc
  filled (Touch a n t) h k = cc
  filled (Make a n b) h k = cc
  filled (Fill a n) h k = found (Fill a n) (turned_to true h)

  empty : (z : CellMark) → x.full ≡ false → y.full ≡ false → read false z ≡ Counted → OneCell z xs (x ∷ p) (y ∷ q)
  empty Counted f h k = stays false Counted f h refl
  empty (Gap a) f h k = stays false (Gap a) f h refl
  empty (Touch a n t) f h k = cc
  empty (Make a n b) f h k = cc
  empty (Fill a n) f h k = cc

  kept : (z : CellMark) (a b : Bool) → x.full ≡ a → y.full ≡ b → read false z ≡ read false (step_cell m x.cell x.node a b) → OneCell z xs (x ∷ p) (y ∷ q)
  kept z true true f h k = kept_true z (m x.node) f h k
  kept z true false f h k = left z h k
  kept z false true f h k = filled z h k
  kept z false false f h k = empty z f h k

gained : (m : NodeId → Bool) (y : Slot) (c q : List Slot) (g : GainsItems SameCell c q) (xs : List CellMark) → map (read false) xs ≡ map (read false) (step_row m g)
    → (z : CellMark) → read false z ≡ Make y.cell y.node y.full → OneCell z xs c (y ∷ q)
gained m y c q g xs e Counted k = cc
gained m y c q g xs e (Gap a) k = cc
gained m y c q g xs e (Touch a n h) k = cc
gained m y c q g xs e (Make a n b) k =
    let r : a ≡ y.cell = cc in
    let s : n ≡ y.node = cc in
    let t : b ≡ y.full = cc in
    record { behind = q; then = λ i. record { cell = sym r i; node = sym s i; full = sym t i } ∷ q; rest = (m, g, e) }
gained m y c q g xs e (Fill a n) k = cc

cell_by : (z : CellMark) (xs : List CellMark) {c d : List Slot} (m : NodeId → Bool) (g : GainsItems SameCell c d) → read false z ∷ map (read false) xs ≡ map (read false) (step_row m g) → OneCell z xs c d
cell_by z xs m no_more e = cc
cell_by z xs m (item_gained {y} {xs = c} {ys = q} g) e = gained m y c q g xs (tail_of _ _ _ _ e) z (head_of _ _ _ _ e)
cell_by z xs m (item_kept {x} {y} {xs = p} {ys = q} same g) e = kept m x y p q g same xs (tail_of _ _ _ _ e) z x.full y.full refl refl (head_of _ _ _ _ e)

one_cell : (z : CellMark) (xs : List CellMark) (c d : List Slot) → Leads c (z ∷ xs) d → OneCell z xs c d
one_cell z xs c d h = cell_by z xs h.0 h.1 h.2

-- ## Many that are counted

record Passed (k : ℕ) (xs : List CellMark) (c d : List Slot) : Type 0 where
  pub front : List Slot
  pub before : List Slot
  pub behind : List Slot
  pub count : length front ≡ k
  pub there : c ≡ front ++ before
  pub then : d ≡ front ++ behind
  pub rest : Leads before xs behind

counted_on : (k : ℕ) (xs : List CellMark) (c d : List Slot) → Leads c (counted_cells k xs) d → Passed k xs c d
counted_on zero xs c d h = record { front = []; before = c; behind = d; count = refl; there = refl; then = refl; rest = h }
counted_on (suc k) xs c d h =
    let f = one_cell Counted (counted_cells k xs) c d h in
    let r = counted_on k xs f.before f.behind f.rest in
    record {
      front = f.slot ∷ r.front;
      before = r.before;
      behind = r.behind;
      count = ap (λ n. suc n) r.count;
      there = f.there ∙ ap (λ l. f.slot ∷ l) r.there;
      then = f.then ∙ ap (λ l. f.slot ∷ l) r.then;
      rest = r.rest;
    }

-- a row that nothing is said of ends
none_led : (c d : List Slot) → Leads c [] d → (c ≡ []) × (d ≡ [])
none_led c d h = go h.0 h.1 h.2
  where
    go : {c d : List Slot} (m : NodeId → Bool) (g : GainsItems SameCell c d) → [] ≡ map (read false) (step_row m g) → (c ≡ []) × (d ≡ [])
    go m no_more e = (refl, refl)
    go m (item_gained g) e = cc
    go m (item_kept same g) e = cc

-- ## In the row

-- what is still to come at a place of a row that is changed, and what comes then
abbrev pub GoesTo : List Slot → ℕ → List Slot → List Slot → ℕ → List Mark → Type 0
GoesTo r i d s q ms = (e : List Slot) × Leads (drop q s) (spread ms) e × (take i r ++ d ≡ take q s ++ e)

-- past some slots of a list
past_some : (f front p : List Slot) → (take (length f + length front) (f ++ (front ++ p)) ≡ f ++ front) × (drop (length f + length front) (f ++ (front ++ p)) ≡ p)
past_some f front p = (
  take-append-add f (front ++ p) (length front) ∙ ap (λ l. f ++ l) (ap (λ n. take n (front ++ p)) (sym (plus_none (length front))) ∙ take-append-add front p 0 ∙ append-nil front),
  drop-append-add f (front ++ p) (length front) ∙ ap (λ n. drop n (front ++ p)) (sym (plus_none (length front))) ∙ drop-append-add front p 0,
)
  where
    plus_none : (n : ℕ) → n + 0 ≡ n
    plus_none n = omega arith

module _ (r : List Slot) (i : ℕ) (within : i ≤ length r) where
  abbrev f : List Slot
  f = take i r

  front_length : length f ≡ i
  front_length = length-take-le i r within

  whole : (front p : List Slot) → drop i r ≡ front ++ p → r ≡ f ++ (front ++ p)
  whole front p e = sym (take-append-drop i r) ∙ ap (λ l. take i r ++ l) e

  -- the slots in front of the place, then those, and the rest
  moved : (s front p e d : List Slot) (q : ℕ) (ms : List Mark) → s ≡ f ++ (front ++ p) → q ≡ i + length front → Leads p (spread ms) e → d ≡ front ++ e → GoesTo r i d s q ms
  moved s front p e d q ms is at rest then =
      let here : q ≡ length f + length front = at ∙ ap (λ n. n + length front) (sym front_length) in
      let parts = past_some f front p in
      let front_is : take q s ≡ f ++ front = (λ j. take (here j) (is j)) ∙ parts.0 in
      let rest_is : drop q s ≡ p = (λ j. drop (here j) (is j)) ∙ parts.1 in
      (e, subst (λ l. Leads l (spread ms) e) (sym rest_is) rest, ap (λ l. f ++ l) then ∙ sym (append_assoc f front e) ∙ ap (λ l. l ++ e) (sym front_is))

  turned_at : (x : Slot) (p : List Slot) (b : Bool) → drop i r ≡ x ∷ p → with_full r i b ≡ f ++ ((full_as x b ∷ []) ++ p)
  turned_at x p b e = (λ j. with_full (whole (x ∷ []) p e j) (sym front_length j) b) ∙ seam f x p b
    where
      seam : (g : List Slot) (x : Slot) (p : List Slot) (b : Bool) → with_full (g ++ x ∷ p) (length g) b ≡ g ++ (full_as x b ∷ p)
      seam [] x p b = refl
      seam (s ∷ g) x p b = ap (λ l. s ∷ l) (seam g x p b)

  there_is : (x : Slot) (p : List Slot) → drop i r ≡ x ∷ p → i < length r
  there_is x p e =
      let n : length r ≡ length f + length (x ∷ p) = ap length (whole (x ∷ []) p e) ∙ length-append f (x ∷ p) in
      let m : length f ≡ i = front_length in
      omega arith

  -- a cell that stays
  cell_stays : (z : CellMark) (d : List Slot) (q : ℕ) (ms : List Mark) → Found z (spread ms) (drop i r) d → ((b : Bool) → full_behind z b ≡ b) → q ≡ min (i + 1) (length r) → GoesTo r i d r q ms
  cell_stays z d q ms h same at =
      let inside : i < length r = there_is h.slot h.before h.there in
      let few : i + 1 ≤ length r = omega arith in
      moved r (h.slot ∷ []) h.before h.behind d q ms (whole (h.slot ∷ []) h.before h.there) (at ∙ min-eq_left few) h.rest
      (h.then ∙ ap (λ b. full_as h.slot b ∷ h.behind) (same h.slot.full))

  -- a cell that is turned
  cell_turns : (z : CellMark) (b : Bool) (d s : List Slot) (q : ℕ) (ms : List Mark) → Found z (spread ms) (drop i r) d → ((a : Bool) → full_behind z a ≡ b) → (i < length r → (s ≡ with_full r i b) × (q ≡ i + 1)) → GoesTo r i d s q ms
  cell_turns z b d s q ms h same at =
      let a = at (there_is h.slot h.before h.there) in
      moved s (full_as h.slot b ∷ []) h.before h.behind d q ms (a.0 ∙ turned_at h.slot h.before b h.there) a.1 h.rest
      (h.then ∙ ap (λ c. full_as h.slot c ∷ h.behind) (same h.slot.full))

  -- a cell that is made
  cell_made : (y : Slot) (d s : List Slot) (q : ℕ) (ms : List Mark) → Made y (spread ms) (drop i r) d → length (f ++ d) < 2 ^ 32 → (length r + 1 < 2 ^ 32 → (s ≡ take i r ++ y ∷ drop i r) × (q ≡ i + 1)) → GoesTo r i d s q ms
  cell_made y d s q ms h short at =
      let grown : length (drop i r) ≤ length h.behind = longer h.rest.0 h.rest.1 in
      let whole_row : length r ≡ length f + length (drop i r) = ap length (sym (take-append-drop i r)) ∙ length-append f (drop i r) in
      let later : length (f ++ d) ≡ length f + length (y ∷ h.behind) = length-append f d ∙ ap (λ l. length f + length l) h.then in
      let room : length r + 1 < 2 ^ 32 = omega arith in
      let a = at room in
      moved s (y ∷ []) (drop i r) h.behind d q ms a.0 a.1 h.rest h.then
    where
      longer : {c d : List Slot} (m : NodeId → Bool) → GainsItems SameCell c d → length c ≤ length d
      longer m no_more = omega arith
      longer m (item_gained g) = let n = longer m g in omega arith
      longer m (item_kept same g) = let n = longer m g in omega arith

  -- some that are counted
  pub cells_pass : (k : ℕ) (d : List Slot) (q : ℕ) (ms : List Mark) → Leads (drop i r) (counted_cells k (spread ms)) d → q ≡ min (i + k) (length r) → GoesTo r i d r q ms
  cells_pass k d q ms h at =
      let p = counted_on k (spread ms) (drop i r) d h in
      let n : length r ≡ length f + length (p.front ++ p.before) = ap length (whole p.front p.before p.there) ∙ length-append f (p.front ++ p.before) in
      let m : length (p.front ++ p.before) ≡ length p.front + length p.before = length-append p.front p.before in
      let g : length f ≡ i = front_length in
      let c : length p.front ≡ k = p.count in
      let few : i + k ≤ length r = omega arith in
      moved r p.front p.before p.behind d q ms (whole p.front p.before p.there) (at ∙ min-eq_left few ∙ ap (λ j. i + j) (sym p.count)) p.rest p.then

  -- by marks
  pub by_gap : (a : CellId) (d : List Slot) (q : ℕ) (ms : List Mark) → Leads (drop i r) (Gap a ∷ spread ms) d → q ≡ min (i + 1) (length r) → GoesTo r i d r q ms
  by_gap a d q ms h at = cell_stays (Gap a) d q ms (one_cell (Gap a) (spread ms) (drop i r) d h) (λ b. refl) at

  pub by_touch : (a : CellId) (n : NodeId) (t : How) (d s : List Slot) (q : ℕ) (ms : List Mark) → Leads (drop i r) (Touch a n t ∷ spread ms) d
      → (t ≡ Leave → i < length r → (s ≡ with_full r i false) × (q ≡ i + 1)) → ((t ≡ Leave → ⊥) → (s ≡ r) × (q ≡ min (i + 1) (length r))) → GoesTo r i d s q ms
  by_touch a n Stay d s q ms h leaves stays =
      let e = stays (λ f. (let g : ◌≡◌ {A = How} Stay Leave = f in cc)) in
      subst (λ u. GoesTo r i d u q ms) (sym e.0) (cell_stays (Touch a n Stay) d q ms (one_cell (Touch a n Stay) (spread ms) (drop i r) d h) (λ b. refl) e.1)
  by_touch a n Here d s q ms h leaves stays =
      let e = stays (λ f. (let g : ◌≡◌ {A = How} Here Leave = f in cc)) in
      subst (λ u. GoesTo r i d u q ms) (sym e.0) (cell_stays (Touch a n Here) d q ms (one_cell (Touch a n Here) (spread ms) (drop i r) d h) (λ b. refl) e.1)
  by_touch a n Leave d s q ms h leaves stays = cell_turns (Touch a n Leave) false d s q ms (one_cell (Touch a n Leave) (spread ms) (drop i r) d h) (λ b. refl) (leaves refl)

  pub by_fill : (a : CellId) (n : NodeId) (d s : List Slot) (q : ℕ) (ms : List Mark) → Leads (drop i r) (Fill a n ∷ spread ms) d → (i < length r → (s ≡ with_full r i true) × (q ≡ i + 1)) → GoesTo r i d s q ms
  by_fill a n d s q ms h at = cell_turns (Fill a n) true d s q ms (one_cell (Fill a n) (spread ms) (drop i r) d h) (λ b. refl) at

  pub by_make : (a : CellId) (n : NodeId) (b : Bool) (d s : List Slot) (q : ℕ) (ms : List Mark) → Leads (drop i r) (Make a n b ∷ spread ms) d → length (f ++ d) < 2 ^ 32
      → (length r + 1 < 2 ^ 32 → (s ≡ take i r ++ record { cell = a; node = n; full = b } ∷ drop i r) × (q ≡ i + 1)) → GoesTo r i d s q ms
  by_make a n b d s q ms h short at = cell_made (record { cell = a; node = n; full = b }) d s q ms (one_cell (Make a n b) (spread ms) (drop i r) d h) short at

-- the next mark
pub drop_next : {A : Type 0} (xs : List A) (i : ℕ) (d x : A) → i < length xs → get_or xs i d ≡ x → drop i xs ≡ x ∷ drop (i + 1) xs
drop_next xs i d x l e = let one : suc i ≡ i + 1 = omega arith in drop-cons xs i d l ∙ ap (λ y. y ∷ drop (suc i) xs) e ∙ ap (λ n. x ∷ drop n xs) one

-- at the end
pub led_to_end : (r d : List Slot) (i : ℕ) (ms : List Mark) → ms ≡ [] → Leads (drop i r) (spread ms) d → r ≡ take i r ++ d
led_to_end r d i ms none h =
    let e = none_led (drop i r) d (subst (λ l. Leads (drop i r) (spread l) d) none h) in
    sym (take-append-drop i r) ∙ ap (λ l. take i r ++ l) (e.0 ∙ sym e.1)
