use Rattle.st_manager.proofs.Contexts.{judged}
use Rattle.st_manager.proofs.laws.contexts_are_judged.Goals as goal

pub returns : goal.returns
returns c = judged
