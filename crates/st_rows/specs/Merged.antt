-- Marks in their normal form.
use Rattle.std.specs.Prelude.{◌≡◌, ℕ, Bool, false, List, [], ◌∷◌, Option, Some, None, is_some}
use Rattle.st_marks.specs.declared.marks.Mark.{Mark}
use Rattle.st_marks.specs.Row.{spread, merge}

-- no Skip of 0, and no two side by side
abbrev pub IsMerged : List Mark → Type 0
IsMerged ms = merge (spread ms) ≡ ms

-- how many cells a mark counts, if it counts cells
abbrev pub count_in : Mark → Option ℕ
count_in (Mark.Skip k) = Some k
count_in (Mark.Gap c) = None
count_in (Mark.Touch c n h) = None
count_in (Mark.Make c n b) = None
count_in (Mark.Fill c n) = None

abbrev pub is_skip : Mark → Bool
is_skip m = is_some (count_in m)

-- whether the first mark counts cells
abbrev pub begins_with_skip : List Mark → Bool
begins_with_skip [] = false
begins_with_skip (m ∷ ms) = is_skip m
