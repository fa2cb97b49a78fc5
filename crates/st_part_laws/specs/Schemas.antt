-- Which schema entries are in effect after a list of commits, told from the entries and the list alone.
use Rattle.std.specs.Prelude.{Bool, false, List, [], ◌∷◌, if◌then◌else◌}
use Rattle.std.specs.Option.{option_map_or}
use Rattle.st_ids.specs.Order.{same_rev}
use Rattle.st_ids.specs.declared.names.Rev.{Rev}
use Rattle.st_marks.specs.declared.intents.Intent.{Intent}
use Rattle.st_marks.specs.declared.schemas.SchemaEntry.{SchemaEntry}
use Rattle.st_marks.specs.CarryOut.{with_schema}
use Rattle.st_marks.specs.Document.{last_of, revs}

-- whether a revision is that of the last entry
abbrev pub is_last_entry : List SchemaEntry → Rev → Bool
is_last_entry entries r = option_map_or (λ s. same_rev s r) (last_of (revs entries)) false

-- the entries after a commit: a change of schema that was made under the last entry appends its own; any other commit
-- leaves them as they are
abbrev pub entries_after : List SchemaEntry → Intent → List SchemaEntry
entries_after entries N = if is_last_entry entries N.under then with_schema N N.schema entries else entries

-- the entries after a list of commits
abbrev pub schemas_after : List SchemaEntry → List Intent → List SchemaEntry
schemas_after entries [] = entries
schemas_after entries (N ∷ Ns) = schemas_after (entries_after entries N) Ns
