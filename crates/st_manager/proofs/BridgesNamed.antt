-- A bridge with each empty cell named.
use Rattle.std.proofs.Common.{Bool, true, ℕ, subst}
use Rattle.st_forest.specs.Stands.{StandsFor}
use Rattle.st_marks.specs.declared.steps.Step.{Step}
use Rattle.st_marks.specs.Document.{Document}
use Rattle.st_marks.proofs.OneVerdict.{one_run}
use Rattle.st_read_laws.specs.Reading.{IsStepRead}
use Rattle.st_seats.specs.Seats.{IsBridge}
use Rattle.st_manager.specs.Stands.{Stands}
use Rattle.st_manager.specs.Told.{Told}
use Rattle.st_manager.specs.declared.manager.Manager.{Manager}

-- a bridge of one who stands for what was told leads to the document of its tables: it stays a bridge with its cells named there
pub bridge_named : {R : Type 0} (l : Bool) (t : Told) (M : Manager R) (session : ℕ) (S T : Step) → Stands l t M
    → ((m : Bool) (D E : Document) → StandsFor M.trunk E → IsStepRead m D E S → IsStepRead true D E T) → IsBridge l t.opening t.log session S → IsBridge true t.opening t.log session T
bridge_named l t M session S T s named b = record {
  author = b.author;
  trunk = b.trunk;
  to_author = b.to_author;
  to_trunk = b.to_trunk;
  extends = b.extends;
  step = named l b.author b.trunk (subst (StandsFor M.trunk) (one_run s.head.to_document b.to_trunk) s.head.tables) b.step;
}
