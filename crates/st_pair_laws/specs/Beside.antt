-- A change and a step that stand beside one another, over one document.
use Rattle.st_marks.specs.declared.changes.Change.{Change}
use Rattle.st_marks.specs.declared.intents.Intent.{Intent}
use Rattle.st_marks.specs.declared.steps.Step.{Step}
use Rattle.st_marks.specs.CarryOut.{full}
use Rattle.st_marks.specs.Document.{Document, HasShortRows}
use Rattle.st_marks.specs.Embedding.{IsEmbedding}
use Rattle.st_marks.specs.Extends.{IsExtendedBy}
use Rattle.st_marks.specs.Intent.{Fits}
use Rattle.st_marks.specs.Step.{IsStep}

-- the change lists an intent in a document from which the step leads to one that extends it, and the intent fits both
abbrev pub StandBeside : Change → Step → Type 0
StandBeside C S = (D : Document) × (E : Document) × (N : Intent)
    × IsExtendedBy D E × Fits D N × Fits E N × HasShortRows (full D N)
    × IsEmbedding D N C × IsStep D E S
