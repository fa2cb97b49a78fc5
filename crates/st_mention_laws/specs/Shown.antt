-- Changes and steps that are shown but for which empty cells they name: each empty cell that stays empty is named by a Gap, or
-- is counted with the full cells that aren't named.
use Rattle.std.specs.Prelude.{◌≡◌, List, map}
use Rattle.st_marks.specs.declared.changes.Change.{Change}
use Rattle.st_marks.specs.declared.intents.Intent.{Intent}
use Rattle.st_marks.specs.declared.marks.Mark.{Mark}
use Rattle.st_marks.specs.declared.marks.RowMarks.{RowMarks}
use Rattle.st_marks.specs.declared.steps.Step.{Step}
use Rattle.st_marks.specs.Document.{Document}
use Rattle.st_marks.specs.Embedding.{IsEmbedding}
use Rattle.st_marks.specs.Row.{CellMark, Counted, Gap, Touch, Make, Fill, merge, spread}
use Rattle.st_marks.specs.Step.{IsStep}

-- ## With empty cells counted

-- what is said of a cell, but for an empty one that stays empty: that is counted
abbrev pub unnamed : CellMark → CellMark
unnamed Counted = Counted
unnamed (Gap c) = Counted
unnamed (Touch c n h) = Touch c n h
unnamed (Make c n b) = Make c n b
unnamed (Fill c n) = Fill c n

-- the marks of a row
abbrev pub thin_marks : List Mark → List Mark
thin_marks ms = merge (map unnamed (spread ms))

-- a row
abbrev pub thin_row : RowMarks → RowMarks
thin_row r = record { node = r.node; marks = thin_marks r.marks }

-- a change: all else stays
abbrev pub thin : Change → Change
thin C = record C { rows = map thin_row C.rows }

-- a step: all else stays
abbrev pub thin_step : Step → Step
thin_step S = record S { rows = map thin_row S.rows }

-- ## What is shown

-- x is the change of N in D, but for which empty cells it names
abbrev pub Shows : Document → Intent → Change → Type 0
Shows D N x = (c : Change) × IsEmbedding D N c × (thin x ≡ thin c)

-- x is the step from D to E, but for which empty cells it names
abbrev pub ShowsStep : Document → Document → Step → Type 0
ShowsStep D E x = (s : Step) × IsStep D E s × (thin_step x ≡ thin_step s)
