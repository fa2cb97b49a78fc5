use Rattle.std.proofs.Common.{Result, Ok, Err, true}
use Rattle.std.specs.Prelude.{IfOk}
use Rattle.st_marks.specs.declared.steps.Step.{Step}
use Rattle.st_marks.specs.Document.{Document}
use Rattle.st_marks.specs.Extends.{IsExtendedBy}
use Rattle.st_marks.specs.Step.{IsStep}
use Rattle.st_read_laws.proofs.Readings.{step_listed_read, step_read_listed}
use Rattle.st_read_laws.specs.Reading.{IsStepRead}
use Rattle.st_carry.proofs.listed.compose_listed.Goals as goal

pub returns : goal.returns
returns c = go c.compose_of.result c.compose_of.ensures.exact
  where
    go : {X : Type 0} (r : Result Step X) → ((D E F : Document) → IsExtendedBy D E → IsExtendedBy E F → IsStep D E c.args.first.now → IsStep E F c.args.then.now → IfOk r (IsStep D F))
        → IfOk r (λ s. (D E F : Document) → IsExtendedBy D E → IsExtendedBy E F → IsStepRead true D E c.args.first.now → IsStepRead true E F c.args.then.now → IsStepRead true D F s)
    go (Ok a) h = λ D E F x y s t. step_listed_read D F a (h D E F x y (step_read_listed D E c.args.first.now s) (step_read_listed E F c.args.then.now t))
    go (Err e) h = tt
