use Rattle.st_push.proofs.ListsPushed.{runs}
use Rattle.st_push.proofs.laws.shown_lists_run.Goals as goal

pub returns : goal.returns
returns c = λ l D F Ns Cs shown. runs shown
