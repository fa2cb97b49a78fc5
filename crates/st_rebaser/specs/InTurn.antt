-- Lists of changes that stand in turn, and the verdicts that they have there.
use Rattle.std.specs.Prelude.{Bool, List, [], ◌∷◌}
use Rattle.st_marks.specs.declared.changes.Change.{Change}
use Rattle.st_marks.specs.declared.intents.Intent.{Intent}
use Rattle.st_marks.specs.declared.verdicts.Verdict.{Verdict}
use Rattle.st_marks.specs.Document.{Document}
use Rattle.st_marks.specs.Verdict.{IsVerdict, carried_document}
use Rattle.st_read_laws.specs.Reading.{IsRead}

-- changes that show intents, each in the document that those before it leave; the last leaves F
pub data ShowInTurn (l : Bool) : Document → List Intent → List Change → Document → Type 0 where
  none_shown : {D : Document} → ShowInTurn l D [] [] D
  one_shown : {D F : Document} {N : Intent} {Ns : List Intent} {C : Change} {Cs : List Change} (v : Verdict) → IsVerdict D N v → IsRead l D N C
      → ShowInTurn l (carried_document v D N) Ns Cs F → ShowInTurn l D (N ∷ Ns) (C ∷ Cs) F

-- the verdicts of intents, each in the document that those before it leave
pub data HaveVerdicts : Document → List Intent → List Verdict → Type 0 where
  none_judged : {D : Document} → HaveVerdicts D [] []
  one_judged : {D : Document} {N : Intent} {Ns : List Intent} {v : Verdict} {vs : List Verdict} → IsVerdict D N v
      → HaveVerdicts (carried_document v D N) Ns vs → HaveVerdicts D (N ∷ Ns) (v ∷ vs)
