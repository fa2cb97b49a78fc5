-- Ways between the document that a commit left and the one where it is void.
use Rattle.std.specs.Prelude.{◌≡◌, Option, Some, None}
use Rattle.st_marks.specs.declared.intents.Intent.{Intent}
use Rattle.st_marks.specs.declared.steps.Step.{Step}
use Rattle.st_marks.specs.declared.verdicts.Verdict.{Verdict}
use Rattle.st_marks.specs.CarryOut.{full, void}
use Rattle.st_marks.specs.Document.{Document}
use Rattle.st_marks.specs.Step.{IsStep}
use Rattle.st_marks.specs.Verdict.{carried_document}

-- the step from the whole document to the void one, if the commit is sound; there is no way to go where it is void
abbrev pub LeadsToVoid : Document → Intent → Verdict → Option Step → Type 0
LeadsToVoid D N v None = carried_document v D N ≡ void D N
LeadsToVoid D N v (Some s) = (v ≡ Verdict.Sound) × IsStep (full D N) (void D N) s

-- likewise the step from the void document to the whole one
abbrev pub LeadsFromVoid : Document → Intent → Verdict → Option Step → Type 0
LeadsFromVoid D N v None = carried_document v D N ≡ void D N
LeadsFromVoid D N v (Some s) = (v ≡ Verdict.Sound) × IsStep (void D N) (full D N) s
