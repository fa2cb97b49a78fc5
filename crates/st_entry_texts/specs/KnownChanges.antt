-- The changes that are known of commits.
use Rattle.std.specs.Prelude.{◌≡◌, ◌==◌, ℕ, List, Option, Some, None, if◌then◌else◌}
use Rattle.std.specs.BTreeMap.{get}
use Rattle.st_ids.specs.Order.{rev_cmp}
use Rattle.st_ids.specs.declared.names.Rev.{Rev}
use Rattle.st_known_changes.specs.Known.{IsKnownIn}
use Rattle.st_lists.specs.declared.lists.Entry.{Entry}
use Rattle.st_marks.specs.Document.{Document}
use Rattle.st_marks.specs.declared.changes.Change.{Change}
use Rattle.st_marks.specs.declared.intents.Intent.{Intent}
use Rattle.st_entry_texts.specs.declared.known.Known.{Known}
use Rattle.st_entry_texts.specs.declared.known.KnownChanges.{KnownChanges}

-- the change, if it was made at a reference
abbrev pub told_at : ℕ → Option Known → Option Change
told_at reference None = None
told_at reference (Some k) = if k.reference == reference then Some k.change else None

-- a change is kept as one of a revision
abbrev pub IsKept : KnownChanges → Rev → Known → Type 0
IsKept x r k = get rev_cmp x.map r ≡ Some k

-- each that is kept is known of a log that opens with a document
abbrev pub AreKnownIn : Document → List Entry → KnownChanges → Type 0
AreKnownIn O log x = (r : Rev) (k : Known) → IsKept x r k → IsKnownIn O log r k.reference k.change

-- what is known of a commit that refers to entries up to a reference
abbrev pub told_of : KnownChanges → ℕ → Intent → Option Change
told_of x reference N = told_at reference (get rev_cmp x.map N.rev)
