-- A step that is read shows the step of which it is read.
use Rattle.std.proofs.Common.{◌≡◌, Bool, true, false, List, [], ◌∷◌, map, refl, ap, ◌∙◌}
use Rattle.st_marks.specs.declared.marks.Mark.{Mark}
use Rattle.st_marks.specs.declared.marks.RowMarks.{RowMarks}
use Rattle.st_marks.specs.declared.steps.Step.{Step}
use Rattle.st_marks.specs.Document.{Document}
use Rattle.st_marks.specs.Row.{CellMark, Counted, Gap, Touch, Make, Fill, merge, spread}
use Rattle.st_mention_laws.specs.Shown.{ShowsStep, thin_marks, thin_row, thin_step, unnamed}
use Rattle.st_read_laws.specs.Reading.{IsStepRead, read, read_marks, read_row}
use Rattle.st_read_laws.proofs.Readings.{spread-read}

unnamed_read : (l : Bool) (x : CellMark) → unnamed (read l x) ≡ unnamed x
unnamed_read l Counted = refl
unnamed_read true (Gap c) = refl
unnamed_read false (Gap c) = refl
unnamed_read l (Touch c n h) = refl
unnamed_read l (Make c n b) = refl
unnamed_read l (Fill c n) = refl

each_read : (l : Bool) (xs : List CellMark) → map unnamed (map (read l) xs) ≡ map unnamed xs
each_read l [] = refl
each_read l (x ∷ xs) = λ i. unnamed_read l x i ∷ each_read l xs i

marks_thin : (l : Bool) (ms : List Mark) → thin_marks (read_marks l ms) ≡ thin_marks ms
marks_thin l ms = ap (λ cells. merge (map unnamed cells)) (spread-read l ms) ∙ ap merge (each_read l (spread ms))

rows_thin : (l : Bool) (rows : List RowMarks) → map thin_row (map (read_row l) rows) ≡ map thin_row rows
rows_thin l [] = refl
rows_thin l (r ∷ rows) = λ i. record { node = r.node; marks = marks_thin l r.marks i } ∷ rows_thin l rows i

pub step_shown : (l : Bool) (D E : Document) (x : Step) → IsStepRead l D E x → ShowsStep D E x
step_shown l D E x r = (r.0, r.1, ap thin_step r.2 ∙ (λ i. record r.0 { rows = rows_thin l r.0.rows i }))
