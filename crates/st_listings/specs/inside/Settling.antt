-- Two lists of entries, of which the front that both share is left out.
use Rattle.std.specs.Prelude.{◌≡◌, ◌≤◌, ℕ, Bool, false, List, drop, length, Option, Some, None}
use Rattle.st_ids.specs.declared.names.Rev.{Rev}
use Rattle.st_marks.specs.declared.schemas.SchemaEntry.{SchemaEntry}
use Rattle.st_listings.specs.Schemas.{same_entry, settle}

-- whether there are two entries, and they are the same
abbrev pub agree : Option SchemaEntry → Option SchemaEntry → Bool
agree None b = false
agree (Some a) None = false
agree (Some a) (Some b) = same_entry a b

-- what is said of both lists is said of what follows a front that they share, behind its last entry
pub record IsSettling (on : Rev) (cut add : List SchemaEntry) (front : ℕ) (last : Rev) : Type 0 where
  pub in_cut : front ≤ length cut
  pub in_add : front ≤ length add
  pub same : settle on cut add ≡ settle last (drop front cut) (drop front add)
