use Rattle.st_world_messages.proofs.Replayed.{begun_texts}
use Rattle.st_world_messages.proofs.laws.texts_begin.Goals as goal

pub returns : goal.returns
returns c = begun_texts
