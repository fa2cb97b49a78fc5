-- That a step stands over a document.
use Rattle.st_marks.specs.declared.steps.Step.{Step}
use Rattle.st_marks.specs.Document.{Document}
use Rattle.st_marks.specs.Extends.{IsExtendedBy}
use Rattle.st_marks.specs.Step.{IsStep}

-- the step leads from the document to one that extends it
abbrev pub LeadsFrom : Document → Step → Type 0
LeadsFrom D S = (E : Document) × IsExtendedBy D E × IsStep D E S
