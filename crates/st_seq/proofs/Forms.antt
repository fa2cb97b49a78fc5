-- The tests on the change of a row.
use Rattle.std.proofs.Common.{◌≡◌, ℕ, zero, suc, ◌&&◌, List, ◌∷◌, refl}
use Rattle.st_marks.specs.declared.marks.Mark.{Mark}
use Rattle.st_marks.specs.declared.places.Slot.{Slot}
use Rattle.st_ids.specs.declared.names.Rev.{Rev}
use Rattle.st_marks.specs.Row.{CellMark, spread, counted_cells}
use Rattle.st_seq.specs.inside.NormalForm.{is_allowed, are_allowed}
use Rattle.st_rows.specs.Reading.{cell_of}

allowed_counted : (rev : Rev) (c : List Slot) (all : List CellMark) (k : ℕ) (xs : List CellMark) → are_allowed rev c all (counted_cells k xs) ≡ are_allowed rev c all xs
allowed_counted rev c all zero xs = refl
allowed_counted rev c all (suc k) xs = allowed_counted rev c all k xs

-- one mark more
pub allowed_on : (rev : Rev) (c : List Slot) (all : List CellMark) (m : Mark) (ms : List Mark) → are_allowed rev c all (spread (m ∷ ms)) ≡ (is_allowed rev c all (cell_of m) (spread ms) && are_allowed rev c all (spread ms))
allowed_on rev c all (Mark.Skip k) ms = allowed_counted rev c all k (spread ms)
allowed_on rev c all (Mark.Gap a) ms = refl
allowed_on rev c all (Mark.Touch a n h) ms = refl
allowed_on rev c all (Mark.Make a n b) ms = refl
allowed_on rev c all (Mark.Fill a n) ms = refl
