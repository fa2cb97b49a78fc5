-- A mark tells something where a cell of it does.
use Rattle.std.proofs.Common.{◌≡◌, ℕ, zero, suc, List, [], ◌∷◌, refl, sym, ◌∙◌}
use Rattle.std.specs.List.{list_any}
use Rattle.st_marks.specs.declared.marks.Mark.{Mark}
use Rattle.st_marks.specs.Embedding.{tells}
use Rattle.st_marks.specs.Row.{CellMark, counted_cells, spread}
use Rattle.st_mention_laws.specs.Tells.{mark_tells}

counted_tells : (k : ℕ) (xs : List CellMark) → list_any tells (counted_cells k xs) ≡ list_any tells xs
counted_tells zero xs = refl
counted_tells (suc k) xs = counted_tells k xs

pub any_spread : (ms : List Mark) → list_any mark_tells ms ≡ list_any tells (spread ms)
any_spread [] = refl
any_spread (Mark.Skip k ∷ ms) = any_spread ms ∙ sym (counted_tells k (spread ms))
any_spread (Mark.Gap c ∷ ms) = any_spread ms
any_spread (Mark.Touch c n h ∷ ms) = refl
any_spread (Mark.Make c n b ∷ ms) = refl
any_spread (Mark.Fill c n ∷ ms) = refl
