-- Changes and steps with their empty cells counted, and how many cells they list.
use Rattle.std.proofs.Common.{◌≡◌, ◌<◌, ◌^◌, suc, false, List, [], ◌∷◌, map, length, refl, sym, ap, ◌∙◌, subst, Result, Ok, Err}
use Rattle.std.specs.Prelude.{IfOk}
use Rattle.std.specs.List.{AllByRecursion}
use Rattle.st_marks.specs.declared.changes.Change.{Change}
use Rattle.st_marks.specs.declared.intents.Intent.{Intent}
use Rattle.st_marks.specs.declared.marks.RowMarks.{RowMarks}
use Rattle.st_marks.specs.declared.steps.Step.{Step}
use Rattle.st_marks.specs.Document.{Document}
use Rattle.st_marks.specs.Row.{CellMark, Counted, Gap, Touch, Make, Fill, merge, spread}
use Rattle.st_mention_laws.specs.Shown.{Shows, ShowsStep, thin, thin_row, thin_step, unnamed}
use Rattle.st_read_laws.specs.Reading.{IsRead, IsStepRead, read, read_row}
use Rattle.st_rows.proofs.KindLaws.{spread-merge}

unnamed-read : (x : CellMark) → unnamed x ≡ read false x
unnamed-read Counted = refl
unnamed-read (Gap c) = refl
unnamed-read (Touch c n h) = refl
unnamed-read (Make c n b) = refl
unnamed-read (Fill c n) = refl

all-read : (xs : List CellMark) → map unnamed xs ≡ map (read false) xs
all-read [] = refl
all-read (x ∷ xs) = λ i. unnamed-read x i ∷ all-read xs i

rows-read : (rows : List RowMarks) → map thin_row rows ≡ map (read_row false) rows
rows-read [] = refl
rows-read (r ∷ rows) = λ i. record { node = r.node; marks = merge (all-read (spread r.marks) i) } ∷ rows-read rows i

-- ## What is thinned is read so

pub change_thin : (D : Document) (N : Intent) (x y : Change) → y ≡ thin x → Shows D N x → IsRead false D N y
change_thin D N x y e shows = (shows.0, shows.1, e ∙ shows.2 ∙ (λ i. record shows.0 { rows = rows-read shows.0.rows i }))

pub step_thin : (D E : Document) (x y : Step) → y ≡ thin_step x → ShowsStep D E x → IsStepRead false D E y
step_thin D E x y e shows = (shows.0, shows.1, e ∙ shows.2 ∙ (λ i. record shows.0 { rows = rows-read shows.0.rows i }))

-- ## As many cells are listed

map-length : {A B : Type 0} (f : A → B) (xs : List A) → length (map f xs) ≡ length xs
map-length f [] = refl
map-length f (x ∷ xs) = ap suc (map-length f xs)

as_long : (r q : RowMarks) → thin_row r ≡ thin_row q → length (spread r.marks) ≡ length (spread q.marks)
as_long r q e =
    sym (map-length unnamed (spread r.marks)) ∙ ap length (sym (spread-merge (map unnamed (spread r.marks))) ∙ ap (λ (z : RowMarks). spread z.marks) e ∙ spread-merge (map unnamed (spread q.marks)))
    ∙ map-length unnamed (spread q.marks)

abbrev AreShort : List RowMarks → Type 0
AreShort rows = AllByRecursion (λ (r : RowMarks). length (spread r.marks) < 2 ^ 32) rows

heads_are : (r q : RowMarks) (rs qs : List RowMarks) → ◌≡◌ {A = List RowMarks} (r ∷ rs) (q ∷ qs) → r ≡ q
heads_are r q rs qs e = cc

tails_are : (r q : RowMarks) (rs qs : List RowMarks) → ◌≡◌ {A = List RowMarks} (r ∷ rs) (q ∷ qs) → rs ≡ qs
tails_are r q rs qs e = cc

rows_short : (rs qs : List RowMarks) → map thin_row rs ≡ map thin_row qs → AreShort qs → AreShort rs
rows_short [] qs e h = tt
rows_short (r ∷ rs) [] e h = cc
rows_short (r ∷ rs) (q ∷ qs) e h = (
  subst (λ k. k < 2 ^ 32) (sym (as_long r q (heads_are (thin_row r) (thin_row q) (map thin_row rs) (map thin_row qs) e))) h.0,
  rows_short rs qs (tails_are (thin_row r) (thin_row q) (map thin_row rs) (map thin_row qs) e) h.1,
)

pub change_as_short : (x c : Change) → thin x ≡ thin c → AreShort c.rows → AreShort x.rows
change_as_short x c e h = rows_short x.rows c.rows (ap (λ (z : Change). z.rows) e) h

pub step_as_short : (x s : Step) → thin_step x ≡ thin_step s → AreShort s.rows → AreShort x.rows
step_as_short x s e h = rows_short x.rows s.rows (ap (λ (z : Step). z.rows) e) h

-- ## Answers

pub ok_weaker : {A E : Type 0} {P Q : A → Type 0} (r : Result A E) → ((a : A) → P a → Q a) → IfOk r P → IfOk r Q
ok_weaker (Ok a) f p = f a p
ok_weaker (Err e) f p = tt
