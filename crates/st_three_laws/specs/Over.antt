-- Three arguments over documents of one chain, and what the value of a call is wherever its arguments stand.
use Rattle.st_marks.specs.declared.changes.Change.{Change}
use Rattle.st_marks.specs.declared.intents.Intent.{Intent}
use Rattle.st_marks.specs.declared.steps.Step.{Step}
use Rattle.st_marks.specs.CarryOut.{full}
use Rattle.st_marks.specs.Document.{Document, HasShortRows}
use Rattle.st_marks.specs.Embedding.{IsEmbedding}
use Rattle.st_marks.specs.Extends.{IsExtendedBy}
use Rattle.st_marks.specs.Intent.{Fits}
use Rattle.st_marks.specs.Step.{IsStep}

-- the change lists an intent in a document from which the first step leads to a second, and the other from there to a third; each
-- extends the one before, and the intent fits all three
abbrev pub StandOverBoth : Change → Step → Step → Type 0
StandOverBoth C a b = (D : Document) × (E : Document) × (F : Document) × (N : Intent)
    × IsExtendedBy D E × IsExtendedBy E F × Fits D N × Fits E N × Fits F N × HasShortRows (full D N)
    × IsEmbedding D N C × IsStep D E a × IsStep E F b

-- wherever the two steps stand in turn, the third leads from the first document to the last
abbrev pub LeadsOverTwo : Step → Step → Step → Type 0
LeadsOverTwo a b ab = (D E F : Document) → IsExtendedBy D E → IsExtendedBy E F → IsStep D E a → IsStep E F b → IsStep D F ab

-- wherever the change and the step stand, the other change is that of the intent after the step
abbrev pub IsAfterwards : Change → Step → Change → Type 0
IsAfterwards C S K = (D E : Document) (N : Intent) → IsExtendedBy D E → Fits D N → Fits E N → IsEmbedding D N C → IsStep D E S → IsEmbedding E N K

-- three steps lead from document to document in turn, each of which extends the one before
abbrev pub StandInTurn : Step → Step → Step → Type 0
StandInTurn a b c = (D : Document) × (E : Document) × (F : Document) × (G : Document)
    × IsExtendedBy D E × IsExtendedBy E F × IsExtendedBy F G × IsStep D E a × IsStep E F b × IsStep F G c
