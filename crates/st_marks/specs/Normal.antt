-- Normal form: a change or a step is normal where it stands over some document.
use Rattle.st_marks.specs.declared.changes.Change.{Change}
use Rattle.st_marks.specs.declared.intents.Intent.{Intent}
use Rattle.st_marks.specs.declared.steps.Step.{Step}
use Rattle.st_marks.specs.Document.{Document, IsSoundInForm, HasShortRows}
use Rattle.st_marks.specs.Extends.{IsExtendedBy}
use Rattle.st_marks.specs.Intent.{Fits}
use Rattle.st_marks.specs.CarryOut.{full}
use Rattle.st_marks.specs.Embedding.{IsEmbedding}
use Rattle.st_marks.specs.Step.{IsStep}

-- the change lists an intent that fits a document
abbrev pub IsNormalChange : Change → Type 0
IsNormalChange C = (D : Document) × (N : Intent) × IsSoundInForm D × Fits D N × HasShortRows (full D N) × IsEmbedding D N C

-- the step leads from a document to one that extends it
abbrev pub IsNormalStep : Step → Type 0
IsNormalStep S = (D : Document) × (E : Document) × IsExtendedBy D E × IsStep D E S
