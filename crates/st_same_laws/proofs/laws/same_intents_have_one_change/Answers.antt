use Rattle.st_same_laws.proofs.OneChange.{embedding_same}
use Rattle.st_same_laws.proofs.laws.same_intents_have_one_change.Goals as goal

pub returns : goal.returns
returns c = embedding_same
