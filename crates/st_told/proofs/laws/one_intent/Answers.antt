use Rattle.st_told.proofs.OneIntent.{one_intent}
use Rattle.st_told.proofs.laws.one_intent.Goals as goal

pub returns : goal.returns
returns c = one_intent
