use Rattle.st_join.proofs.JoinIntents.{joined_intent}
use Rattle.st_join.proofs.laws.listed_joins_are_intents.Goals as goal

pub returns : goal.returns
returns c = joined_intent
