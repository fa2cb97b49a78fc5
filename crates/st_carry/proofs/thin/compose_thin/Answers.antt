use Rattle.std.proofs.Common.{Result, Ok, Err, false}
use Rattle.std.specs.Prelude.{IfOk}
use Rattle.st_marks.specs.declared.steps.Step.{Step}
use Rattle.st_marks.specs.Document.{Document}
use Rattle.st_marks.specs.Extends.{IsExtendedBy}
use Rattle.st_marks.proofs.Turns.{extends_on}
use Rattle.st_mention_laws.specs.Shown.{ShowsStep}
use Rattle.st_over.proofs.Shown.{shown-step}
use Rattle.st_read_laws.specs.Reading.{IsStepRead}
use Rattle.st_carry.proofs.thin.compose_thin.Goals as goal

pub returns : goal.returns
returns c = go c.step_thinned.result c.step_thinned.ensures
  where
    go : {X : Type 0} (r : Result Step X) → ((D F : Document) → IsExtendedBy D F → ShowsStep D F c.in_ok-both.both → IfOk r (IsStepRead false D F))
        → IfOk r (λ s. (D E F : Document) → IsExtendedBy D E → IsExtendedBy E F → IsStepRead false D E c.args.first.now → IsStepRead false E F c.args.then.now → IsStepRead false D F s)
    go (Ok a) h = λ D E F x y s t. h D F (extends_on D E F x y) (c.in_ok-both.ensures.shown D E F x y (shown-step false D E c.args.first.now s) (shown-step false E F c.args.then.now t))
    go (Err e) h = tt
