-- What is read off touches, fills and makes is the same where empty cells are counted.
use Rattle.std.proofs.Common.{◌≡◌, ℕ, zero, suc, Bool, true, false, ◌||◌, List, [], ◌∷◌, ◌++◌, map, Some, option_map, cond, refl, sym, ap, ◌∙◌}
use Rattle.std.specs.List.{find, flat_map, list_any}
use Rattle.st_ids.specs.declared.names.CellId.{CellId}
use Rattle.st_ids.specs.declared.names.NodeId.{NodeId}
use Rattle.st_marks.specs.declared.changes.Change.{Change}
use Rattle.st_marks.specs.declared.intents.Intent.{Intent}
use Rattle.st_marks.specs.declared.marks.Mark.{Mark}
use Rattle.st_marks.specs.declared.marks.RowMarks.{RowMarks}
use Rattle.st_marks.specs.declared.steps.Step.{Step}
use Rattle.st_marks.specs.Document.{Document}
use Rattle.st_marks.specs.Embedding.{IsEmbedding}
use Rattle.st_marks.specs.Row.{CellMark, Counted, Gap, Touch, Make, Fill, counted_cells, merge, skip_one, spread}
use Rattle.st_marks.specs.Step.{IsStep}
use Rattle.st_mention_laws.specs.Shown.{Shows, ShowsStep, thin, thin_marks, thin_row, thin_step, unnamed}

-- ## The cells of a row whose empty cells are counted

skipped : (ms : List Mark) → spread (skip_one ms) ≡ Counted ∷ spread ms
skipped [] = refl
skipped (Mark.Skip k ∷ ms) = refl
skipped (Mark.Gap c ∷ ms) = refl
skipped (Mark.Touch c n h ∷ ms) = refl
skipped (Mark.Make c n b ∷ ms) = refl
skipped (Mark.Fill c n ∷ ms) = refl

merged : (cells : List CellMark) → spread (merge cells) ≡ cells
merged [] = refl
merged (Counted ∷ ms) = skipped (merge ms) ∙ ap (λ l. Counted ∷ l) (merged ms)
merged (Gap c ∷ ms) = ap (λ l. Gap c ∷ l) (merged ms)
merged (Touch c n h ∷ ms) = ap (λ l. Touch c n h ∷ l) (merged ms)
merged (Make c n b ∷ ms) = ap (λ l. Make c n b ∷ l) (merged ms)
merged (Fill c n ∷ ms) = ap (λ l. Fill c n ∷ l) (merged ms)

pub spread-thin : (ms : List Mark) → spread (thin_marks ms) ≡ map unnamed (spread ms)
spread-thin ms = merged (map unnamed (spread ms))

unnamed-twice : (cells : List CellMark) → map unnamed (map unnamed cells) ≡ map unnamed cells
unnamed-twice [] = refl
unnamed-twice (Counted ∷ ms) = ap (λ l. Counted ∷ l) (unnamed-twice ms)
unnamed-twice (Gap c ∷ ms) = ap (λ l. Counted ∷ l) (unnamed-twice ms)
unnamed-twice (Touch c n h ∷ ms) = ap (λ l. Touch c n h ∷ l) (unnamed-twice ms)
unnamed-twice (Make c n b ∷ ms) = ap (λ l. Make c n b ∷ l) (unnamed-twice ms)
unnamed-twice (Fill c n ∷ ms) = ap (λ l. Fill c n ∷ l) (unnamed-twice ms)

-- where they are counted, none is left to be counted
rows-twice : (rows : List RowMarks) → map thin_row (map thin_row rows) ≡ map thin_row rows
rows-twice [] = refl
rows-twice (r ∷ rows) = λ i. record { node = r.node; marks = (ap (λ cells. merge (map unnamed cells)) (spread-thin r.marks) ∙ ap merge (unnamed-twice (spread r.marks))) i } ∷ rows-twice rows i

pub thin-twice : (C : Change) → thin (thin C) ≡ thin C
thin-twice C = λ i. record C { rows = rows-twice C.rows i }

pub thin_step-twice : (S : Step) → thin_step (thin_step S) ≡ thin_step S
thin_step-twice S = λ i. record S { rows = rows-twice S.rows i }

-- ## Readers of cells that read nothing at a counted and at an empty cell

pub flat_map-unnamed : {B : Type 0} (g : CellMark → List B) → g Counted ≡ [] → ((c : CellId) → g (Gap c) ≡ []) → (cells : List CellMark) → flat_map g (map unnamed cells) ≡ flat_map g cells
flat_map-unnamed g counted gap [] = refl
flat_map-unnamed g counted gap (Counted ∷ ms) = ap (λ l. g Counted ++ l) (flat_map-unnamed g counted gap ms)
flat_map-unnamed g counted gap (Gap c ∷ ms) = ap (λ l. g Counted ++ l) (flat_map-unnamed g counted gap ms) ∙ ap (λ l. l ++ flat_map g ms) (counted ∙ sym (gap c))
flat_map-unnamed g counted gap (Touch c n h ∷ ms) = ap (λ l. g (Touch c n h) ++ l) (flat_map-unnamed g counted gap ms)
flat_map-unnamed g counted gap (Make c n b ∷ ms) = ap (λ l. g (Make c n b) ++ l) (flat_map-unnamed g counted gap ms)
flat_map-unnamed g counted gap (Fill c n ∷ ms) = ap (λ l. g (Fill c n) ++ l) (flat_map-unnamed g counted gap ms)

pub list_any-unnamed : (g : CellMark → Bool) → g Counted ≡ false → ((c : CellId) → g (Gap c) ≡ false) → (cells : List CellMark) → list_any g (map unnamed cells) ≡ list_any g cells
list_any-unnamed g counted gap [] = refl
list_any-unnamed g counted gap (Counted ∷ ms) = ap (λ q. g Counted || q) (list_any-unnamed g counted gap ms)
list_any-unnamed g counted gap (Gap c ∷ ms) = ap (λ q. g Counted || q) (list_any-unnamed g counted gap ms) ∙ ap (λ q. q || list_any g ms) (counted ∙ sym (gap c))
list_any-unnamed g counted gap (Touch c n h ∷ ms) = ap (λ q. g (Touch c n h) || q) (list_any-unnamed g counted gap ms)
list_any-unnamed g counted gap (Make c n b ∷ ms) = ap (λ q. g (Make c n b) || q) (list_any-unnamed g counted gap ms)
list_any-unnamed g counted gap (Fill c n ∷ ms) = ap (λ q. g (Fill c n) || q) (list_any-unnamed g counted gap ms)

-- of a row
pub flat_map-cells : {B : Type 0} (g : CellMark → List B) → g Counted ≡ [] → ((c : CellId) → g (Gap c) ≡ []) → (ms : List Mark) → flat_map g (spread (thin_marks ms)) ≡ flat_map g (spread ms)
flat_map-cells g counted gap ms = ap (flat_map g) (spread-thin ms) ∙ flat_map-unnamed g counted gap (spread ms)

pub list_any-cells : (g : CellMark → Bool) → g Counted ≡ false → ((c : CellId) → g (Gap c) ≡ false) → (ms : List Mark) → list_any g (spread (thin_marks ms)) ≡ list_any g (spread ms)
list_any-cells g counted gap ms = ap (list_any g) (spread-thin ms) ∙ list_any-unnamed g counted gap (spread ms)

-- ## Readers of marks that read nothing at a Skip and at a Gap: they read cells

-- what a reader of marks reads of a cell
abbrev of_cell : {B : Type 0} → B → (Mark → B) → CellMark → B
of_cell none f Counted = none
of_cell none f (Gap c) = none
of_cell none f (Touch c n h) = f (Mark.Touch c n h)
of_cell none f (Make c n b) = f (Mark.Make c n b)
of_cell none f (Fill c n) = f (Mark.Fill c n)

uncounted : {B : Type 0} (f : Mark → List B) (k : ℕ) (cells : List CellMark) → flat_map (of_cell [] f) (counted_cells k cells) ≡ flat_map (of_cell [] f) cells
uncounted f zero cells = refl
uncounted f (suc k) cells = uncounted f k cells

by_cells : {B : Type 0} (f : Mark → List B) → ((k : ℕ) → f (Mark.Skip k) ≡ []) → ((c : CellId) → f (Mark.Gap c) ≡ []) → (ms : List Mark) → flat_map f ms ≡ flat_map (of_cell [] f) (spread ms)
by_cells f skip gap [] = refl
by_cells f skip gap (Mark.Skip k ∷ ms) = ap (λ l. l ++ flat_map f ms) (skip k) ∙ by_cells f skip gap ms ∙ sym (uncounted f k (spread ms))
by_cells f skip gap (Mark.Gap c ∷ ms) = ap (λ l. l ++ flat_map f ms) (gap c) ∙ by_cells f skip gap ms
by_cells f skip gap (Mark.Touch c n h ∷ ms) = ap (λ l. f (Mark.Touch c n h) ++ l) (by_cells f skip gap ms)
by_cells f skip gap (Mark.Make c n b ∷ ms) = ap (λ l. f (Mark.Make c n b) ++ l) (by_cells f skip gap ms)
by_cells f skip gap (Mark.Fill c n ∷ ms) = ap (λ l. f (Mark.Fill c n) ++ l) (by_cells f skip gap ms)

pub flat_map-marks : {B : Type 0} (f : Mark → List B) → ((k : ℕ) → f (Mark.Skip k) ≡ []) → ((c : CellId) → f (Mark.Gap c) ≡ []) → (ms : List Mark) → flat_map f (thin_marks ms) ≡ flat_map f ms
flat_map-marks f skip gap ms = by_cells f skip gap (thin_marks ms) ∙ flat_map-cells (of_cell [] f) refl (λ c. refl) ms ∙ sym (by_cells f skip gap ms)

unasked : (f : Mark → Bool) (k : ℕ) (cells : List CellMark) → list_any (of_cell false f) (counted_cells k cells) ≡ list_any (of_cell false f) cells
unasked f zero cells = refl
unasked f (suc k) cells = unasked f k cells

some_cell : (f : Mark → Bool) → ((k : ℕ) → f (Mark.Skip k) ≡ false) → ((c : CellId) → f (Mark.Gap c) ≡ false) → (ms : List Mark) → list_any f ms ≡ list_any (of_cell false f) (spread ms)
some_cell f skip gap [] = refl
some_cell f skip gap (Mark.Skip k ∷ ms) = ap (λ q. q || list_any f ms) (skip k) ∙ some_cell f skip gap ms ∙ sym (unasked f k (spread ms))
some_cell f skip gap (Mark.Gap c ∷ ms) = ap (λ q. q || list_any f ms) (gap c) ∙ some_cell f skip gap ms
some_cell f skip gap (Mark.Touch c n h ∷ ms) = ap (λ q. f (Mark.Touch c n h) || q) (some_cell f skip gap ms)
some_cell f skip gap (Mark.Make c n b ∷ ms) = ap (λ q. f (Mark.Make c n b) || q) (some_cell f skip gap ms)
some_cell f skip gap (Mark.Fill c n ∷ ms) = ap (λ q. f (Mark.Fill c n) || q) (some_cell f skip gap ms)

pub list_any-marks : (f : Mark → Bool) → ((k : ℕ) → f (Mark.Skip k) ≡ false) → ((c : CellId) → f (Mark.Gap c) ≡ false) → (ms : List Mark) → list_any f (thin_marks ms) ≡ list_any f ms
list_any-marks f skip gap ms = some_cell f skip gap (thin_marks ms) ∙ list_any-cells (of_cell false f) refl (λ c. refl) ms ∙ sym (some_cell f skip gap ms)

-- ## Readers of rows

pub flat_map-rows : {B : Type 0} (f : RowMarks → List B) → ((r : RowMarks) → f (thin_row r) ≡ f r) → (rows : List RowMarks) → flat_map f (map thin_row rows) ≡ flat_map f rows
flat_map-rows f same [] = refl
flat_map-rows f same (r ∷ rows) = ap (λ l. l ++ flat_map f (map thin_row rows)) (same r) ∙ ap (λ l. f r ++ l) (flat_map-rows f same rows)

-- where rows are read mark by mark
pub flat_map-told : {B : Type 0} (f : NodeId → Mark → List B) → ((n : NodeId) (k : ℕ) → f n (Mark.Skip k) ≡ []) → ((n : NodeId) (c : CellId) → f n (Mark.Gap c) ≡ [])
    → (rows : List RowMarks) → flat_map (λ (r : RowMarks). flat_map (f r.node) r.marks) (map thin_row rows) ≡ flat_map (λ (r : RowMarks). flat_map (f r.node) r.marks) rows
flat_map-told f skip gap rows = flat_map-rows (λ (r : RowMarks). flat_map (f r.node) r.marks) (λ r. flat_map-marks (f r.node) (skip r.node) (gap r.node) r.marks) rows

pub list_any-rows : (f : RowMarks → Bool) → ((r : RowMarks) → f (thin_row r) ≡ f r) → (rows : List RowMarks) → list_any f (map thin_row rows) ≡ list_any f rows
list_any-rows f same [] = refl
list_any-rows f same (r ∷ rows) = ap (λ q. q || list_any f (map thin_row rows)) (same r) ∙ ap (λ q. f r || q) (list_any-rows f same rows)

-- what is read of the first row that is asked for
pub find-rows : {A : Type 0} (test : RowMarks → Bool) (f : RowMarks → A) → ((r : RowMarks) → test (thin_row r) ≡ test r) → ((r : RowMarks) → f (thin_row r) ≡ f r)
    → (rows : List RowMarks) → option_map f (find test (map thin_row rows)) ≡ option_map f (find test rows)
find-rows test f asked same [] = refl
find-rows test f asked same (r ∷ rows) =
    ap (λ b. option_map f (cond b (Some (thin_row r)) (find test (map thin_row rows)))) (asked r) ∙ go (test r) (find-rows test f asked same rows)
  where
    go : (b : Bool) → option_map f (find test (map thin_row rows)) ≡ option_map f (find test rows) → option_map f (cond b (Some (thin_row r)) (find test (map thin_row rows))) ≡ option_map f (cond b (Some r) (find test rows))
    go true rest = ap (λ a. Some a) (same r)
    go false rest = rest

-- ## Readers of changes and steps

-- what doesn't see which empty cells a change names, is the same of changes that are alike but for that
pub alike : {A : Type 0} (f : Change → A) → ((C : Change) → f (thin C) ≡ f C) → (x c : Change) → thin x ≡ thin c → f x ≡ f c
alike f same x c e = sym (same x) ∙ ap f e ∙ same c

pub alike_step : {A : Type 0} (f : Step → A) → ((S : Step) → f (thin_step S) ≡ f S) → (x s : Step) → thin_step x ≡ thin_step s → f x ≡ f s
alike_step f same x s e = sym (same x) ∙ ap f e ∙ same s

-- an embedding and a step show themselves, and so do they with their empty cells counted
pub shows_itself : (D : Document) (N : Intent) (C : Change) → IsEmbedding D N C → Shows D N C
shows_itself D N C emb = (C, emb, refl)

pub shows_thin : (D : Document) (N : Intent) (C : Change) → IsEmbedding D N C → Shows D N (thin C)
shows_thin D N C emb = (C, emb, thin-twice C)

pub shows_itself-step : (D E : Document) (S : Step) → IsStep D E S → ShowsStep D E S
shows_itself-step D E S step = (S, step, refl)

pub shows_thin-step : (D E : Document) (S : Step) → IsStep D E S → ShowsStep D E (thin_step S)
shows_thin-step D E S step = (S, step, thin_step-twice S)
