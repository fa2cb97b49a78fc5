-- What is told of an edit before it is written.
use Rattle.std.specs.Prelude.{Option, Some, None, Result, Ok, Err}
use Rattle.st_marks.specs.Document.{Document}
use Rattle.st_marks.specs.Embedding.{IsEmbedding}
use Rattle.st_marks.specs.declared.changes.Change.{Change}
use Rattle.st_marks.specs.declared.intents.Intent.{Intent}
use Rattle.st_tree.specs.declared.edit.EditFault.{EditFault}

-- of one that has an intent, the change that the intent is in a document; of one that is refused, nothing
abbrev pub IsToldOf : Document → Result Intent EditFault → Option Change → Type 0
IsToldOf D (Ok N) (Some C) = IsEmbedding D N C
IsToldOf D (Ok N) None = ⊥
IsToldOf D (Err f) (Some C) = ⊥
IsToldOf D (Err f) None = Unit {0}
