-- The longest front that two lists of schema entries share.
use Rattle.std.specs.Prelude.{◌≡◌, ◌≤◌, ℕ, Bool, false, List, Option, Some, None, length, slice_get, take}
use Rattle.st_later.specs.inside.Extending.{same_entry}
use Rattle.st_marks.specs.declared.schemas.SchemaEntry.{SchemaEntry}

-- whether both are there and the same
abbrev pub agree : Option SchemaEntry → Option SchemaEntry → Bool
agree None b = false
agree (Some x) None = false
agree (Some x) (Some y) = same_entry x y

-- so many entries at the front are the same, and no more
pub record IsSharedFront (before after : List SchemaEntry) (k : ℕ) : Type 0 where
  pub shared : take k before ≡ take k after
  pub within_before : k ≤ length before
  pub within_after : k ≤ length after
  pub longest : agree (slice_get before k) (slice_get after k) ≡ false
