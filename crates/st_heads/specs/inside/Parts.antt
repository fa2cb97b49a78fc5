-- Parts of a transaction.
use Rattle.std.specs.Prelude.{Option, Some, None}
use Rattle.st_marks.specs.declared.intents.Intent.{Intent}
use Rattle.st_marks.specs.Document.{Document}
use Rattle.st_marks.specs.Join.{AreParts}

-- an intent is a later part of the commit of what was edited so far
abbrev pub CanFollow : Document → Option Intent → Intent → Type 0
CanFollow D None M = Unit {0}
CanFollow D (Some J) M = AreParts D J M
