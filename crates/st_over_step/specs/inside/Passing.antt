-- A row that is gone along, from place to place.
use Rattle.std.specs.Prelude.{◌↔◌, ◌++◌, ℕ, List, Option, Some, None, drop}
use Rattle.st_marks.specs.declared.places.Slot.{Slot}
use Rattle.st_marks.specs.Listings.{CellView}
use Rattle.st_puts.specs.Seen.{AreAsSeen}

-- cells that are seen lead from a place of a row to the one behind them: what is left there is as these and more are seen exactly
-- where what is left behind is as more are seen; where they aren't at the place, they lead nowhere
abbrev pub Passes : List Slot → ℕ → List CellView → Option ℕ → Type 0
Passes c place seen None = (more : List CellView) → AreAsSeen (drop place c) (seen ++ more) → ⊥
Passes c place seen (Some behind) = (more : List CellView) → AreAsSeen (drop place c) (seen ++ more) ↔ AreAsSeen (drop behind c) more
