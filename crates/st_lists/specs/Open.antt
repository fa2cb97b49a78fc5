-- A transaction that is open over the document of a line.
use Rattle.std.specs.Prelude.{◌≡◌, Option, Some, None}
use Rattle.st_ids.specs.declared.names.Rev.{Rev}
use Rattle.st_marks.specs.declared.intents.Intent.{Intent}
use Rattle.st_marks.specs.CarryOut.{full}
use Rattle.st_marks.specs.declared.verdicts.Verdict.{Verdict}
use Rattle.st_marks.specs.Document.{Document, HasShortRows}
use Rattle.st_marks.specs.Intent.{Fits}
use Rattle.st_marks.specs.Join.{IsJoin}
use Rattle.st_marks.specs.Verdict.{IsVerdict}

-- the document that is shown while a transaction is open: the line's, with what was edited so far carried out whole
abbrev pub with_open : Document → Option Intent → Document
with_open D None = D
with_open D (Some J) = full D J

-- what was edited so far is nothing, or an intent that fits the line's document, of the transaction's revision and made
-- under its schema, which changes no schema
abbrev pub FitsSoFar : Document → Rev → Rev → Option Intent → Type 0
FitsSoFar D rev under None = Unit {0}
FitsSoFar D rev under (Some J) = Fits D J × (J.rev ≡ rev) × (J.under ≡ under) × (J.schema ≡ None)

-- what was edited, with one part more: the part alone, or both as one
abbrev pub IsWithPart : Option Intent → Intent → Intent → Type 0
IsWithPart None M K = K ≡ M
IsWithPart (Some J) M K = IsJoin J M K

-- an intent fits a document, is sound there and changes no schema, and rows stay short after it
pub record IsSoundPart (D : Document) (M : Intent) : Type 0 where
  pub fits : Fits D M
  pub no_schema : M.schema ≡ None
  pub verdict : IsVerdict D M Verdict.Sound
  pub short : HasShortRows (full D M)
