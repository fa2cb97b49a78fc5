-- where the change stands before the commits that are left
use Rattle.std.proofs.Common.{drop}
use Rattle.st_marks.specs.declared.intents.Intent.{Intent}
use Rattle.st_marks.specs.Document.{Document}
use Rattle.st_undo.specs.inside.Carrying.{LeadInTurn, MakesNothing, Stands}
use Rattle.st_undo.proofs.GoingOver.{IsBefore}
use Rattle.st_undo.proofs.carrying.go_over_kept.Given as goal

abbrev pub invariant-loop-one : goal.invariant-loop-one
invariant-loop-one g l = (D T : Document) (B : Intent) → MakesNothing B → LeadInTurn g.R.Carrier.listed D l.kept T
    → Stands g.R.Carrier.listed D B l.initial.change l.initial.verdict → IsBefore g.R.Carrier.listed (drop l.one-index l.kept) T B l.change l.verdict
