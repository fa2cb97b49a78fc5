-- Each schema's line of ancestors, and that the entries in effect are such a line.
use Rattle.std.specs.Prelude.{◌≡◌, List, [], ◌∷◌, ◌++◌, Some, IfSome, if◌then◌else◌}
use Rattle.st_ids.specs.Listing.{Has}
use Rattle.st_ids.specs.Order.{same_rev}
use Rattle.st_ids.specs.declared.names.Rev.{Rev}
use Rattle.st_marks.specs.declared.intents.Intent.{Intent}
use Rattle.st_marks.specs.declared.schemas.SchemaEntry.{SchemaEntry}
use Rattle.st_marks.specs.Document.{last_of, revs}

-- `chain` tells the line of ancestors of a change of schema: that of the schema under which it was made, and then itself
abbrev pub TellsChain : (Rev → List Rev) → Intent → Type 0
TellsChain chain N = IfSome N.schema (λ _. chain N.rev ≡ chain N.under ++ N.rev ∷ [])

-- the entries are the last one's line of ancestors, and with each of them are all of its line
pub record AreInLine (chain : Rev → List Rev) (entries : List SchemaEntry) : Type 0 where
  pub last : (r : Rev) → last_of (revs entries) ≡ Some r → revs entries ≡ chain r
  pub each : (r s : Rev) → Has (revs entries) r → Has (chain r) s → Has (revs entries) s

-- ## One more commit

-- under which schema each commit was made, where one more tells it
abbrev pub with_under : (Rev → Rev) → Intent → Rev → Rev
with_under under N r = if same_rev r N.rev then N.under else under r

-- each schema's line of ancestors, where one more change of schema tells its own
abbrev pub with_chain : (Rev → List Rev) → Intent → Rev → List Rev
with_chain chain N r = if same_rev r N.rev then chain N.under ++ N.rev ∷ [] else chain r
