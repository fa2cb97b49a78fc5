-- Which changes and steps are normal as texts: in a text a row lists fewer cells than in memory.
use Rattle.std.specs.Prelude.{◌^◌, ◌&&◌, nat_lt, length, Bool, IsTrue, List}
use Rattle.std.specs.List.{list_all}
use Rattle.st_marks.specs.declared.changes.Change.{Change}
use Rattle.st_marks.specs.declared.marks.RowMarks.{RowMarks}
use Rattle.st_marks.specs.declared.steps.Step.{Step}
use Rattle.st_marks.specs.Listings.{cells_after, cells_before}
use Rattle.st_marks.specs.Row.{spread}
use Rattle.st_normal.specs.Rules.{ObeysChangeRules, ObeysStepRules}

-- fewer than 2^31 cells before and after
abbrev pub row_is_short : RowMarks → Bool
row_is_short r = nat_lt (length (cells_before (spread r.marks))) (2 ^ 31) && nat_lt (length (cells_after (spread r.marks))) (2 ^ 31)

abbrev pub rows_are_short : List RowMarks → Bool
rows_are_short = list_all row_is_short

-- a change, or a step, that obeys the rules of normal form and lists no longer rows
abbrev pub IsNormalText : Change → Type 0
IsNormalText C = ObeysChangeRules C × IsTrue (rows_are_short C.rows)

abbrev pub IsNormalStepText : Step → Type 0
IsNormalStepText S = ObeysStepRules S × IsTrue (rows_are_short S.rows)
