use Rattle.st_world_messages.proofs.Replayed.{taken_at}
use Rattle.st_world_messages.proofs.laws.world_texts_are_taken.Goals as goal

pub returns : goal.returns
returns c = λ h n w i e v t few at y. taken_at h n w t few i e at v y
