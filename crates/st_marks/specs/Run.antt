-- What a document becomes by a list of intents, one after the other.
use Rattle.std.specs.Prelude.{List, [], ◌∷◌}
use Rattle.st_marks.specs.declared.intents.Intent.{Intent}
use Rattle.st_marks.specs.declared.verdicts.Verdict.{Verdict}
use Rattle.st_marks.specs.Document.{Document, HasShortRows}
use Rattle.st_marks.specs.Intent.{Fits}
use Rattle.st_marks.specs.CarryOut.{full}
use Rattle.st_marks.specs.Verdict.{IsVerdict, carried_document}

-- each intent is carried out or void, as its verdict is where it comes
pub data Run : Document → List Intent → Document → Type 0 where
  done : {D : Document} → Run D [] D
  next : {D E : Document} {N : Intent} {Ns : List Intent} (v : Verdict) → IsVerdict D N v → Run (carried_document v D N) Ns E → Run D (N ∷ Ns) E

-- in the run, each intent fits where it comes, and rows stay short enough
abbrev pub FitsInTurn : {D E : Document} {Ns : List Intent} → Run D Ns E → Type 0
FitsInTurn done = Unit {0}
FitsInTurn (next {D} {N = N} v is rest) = Fits D N × HasShortRows (full D N) × FitsInTurn rest

-- each intent is carried out whole
abbrev pub run_whole : Document → List Intent → Document
run_whole D [] = D
run_whole D (N ∷ Ns) = run_whole (full D N) Ns
