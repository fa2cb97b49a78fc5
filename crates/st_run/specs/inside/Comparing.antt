-- What stands for the states of two schemas.
use Rattle.std.specs.Prelude.{◌≡◌, ℕ, true, false, Option, Some, None}
use Rattle.st_answers.specs.Compat.{CompatState, unread, stored, related}
use Rattle.st_run.specs.declared.compat.Comparing.{Comparing}
use Rattle.st_schema.specs.Schema.{SchemaView}

-- the stored schema is kept
abbrev pub IsStoredIn : Option SchemaView → CompatState → Type 0
IsStoredIn o t = (s : SchemaView) × (o ≡ Some s) × (t ≡ stored s)

abbrev pub StandsForCompat : Comparing → ℕ → CompatState → Type 0
StandsForCompat c n unread = (c.done ≡ false) × (c.schema ≡ None)
StandsForCompat c n (stored s) = (c.done ≡ false) × (c.schema ≡ Some s)
StandsForCompat c n related = c.done ≡ true
