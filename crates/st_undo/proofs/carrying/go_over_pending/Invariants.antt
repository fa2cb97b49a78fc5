-- where the change stands before the commits that are left
use Rattle.std.proofs.Common.{List, drop}
use Rattle.st_log_laws.specs.Turns.{FitInTurn}
use Rattle.st_marks.specs.declared.intents.Intent.{Intent}
use Rattle.st_marks.specs.Document.{Document, IsSoundInForm}
use Rattle.st_rebaser.specs.InTurn.{ShowInTurn}
use Rattle.st_undo.specs.inside.Carrying.{MakesNothing, Stands}
use Rattle.st_undo.proofs.GoingOver.{IsBeforePending}
use Rattle.st_undo.proofs.carrying.go_over_pending.Given as goal

abbrev pub invariant-loop-other : goal.invariant-loop-other
invariant-loop-other g l = (T F : Document) (Ns : List Intent) (B : Intent) → MakesNothing B → IsSoundInForm T → FitInTurn T Ns → ShowInTurn g.R.Carrier.listed T Ns l.pending F
    → Stands g.R.Carrier.listed T B l.initial.change l.initial.verdict → IsBeforePending g.R.Carrier.listed (drop l.other-index l.pending) F B l.change l.verdict
