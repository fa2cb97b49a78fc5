use Rattle.std.proofs.Common.{sym, subst}
use Rattle.st_mention_laws.specs.Shown.{ShowsStep}
use Rattle.st_read_laws.proofs.Readings.{step_listed_read}
use Rattle.st_manager.proofs.ReadSteps.{step_shown}
use Rattle.st_manager.proofs.lending.with_cells_named.Goals as goal

pub returns : goal.returns
returns c = λ l D E tables read. step_listed_read D E c.list_step.new.step
    (c.in_ok-list_step.ensures D E tables (subst (ShowsStep D E) (sym c.in_ok-named.ensures) (step_shown l D E c.args.step.now read)))
