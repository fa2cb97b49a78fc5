-- Commits that say the same lead to one document.
use Rattle.std.proofs.Common.{List, [], ◌∷◌, subst}
use Rattle.st_marks.specs.declared.intents.Intent.{Intent}
use Rattle.st_marks.specs.Document.{Document}
use Rattle.st_marks.specs.Run.{Run, done, next}
use Rattle.st_marks.specs.Verdict.{carried_document}
use Rattle.st_same_laws.specs.Same.{SayTheSame}
use Rattle.st_same_laws.proofs.CarriedDocuments.{verdict_same, carried_same}

pub run_same : (D E : Document) (Ns Ms : List Intent) → SayTheSame Ns Ms → Run D Ns E → Run D Ms E
run_same D E [] [] s done = done
run_same D E [] (M ∷ Ms) s r = absurd s
run_same D E (N ∷ Ns) [] s r = absurd s
run_same D E (N ∷ Ns) (M ∷ Ms) s (next v is rest) =
    next v (verdict_same D N M v s.0 is) (run_same (carried_document v D M) E Ns Ms s.1 (subst (λ (F : Document). Run F Ns E) (carried_same D N M v s.0) rest))
