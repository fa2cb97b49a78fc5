use Rattle.st_world_messages.proofs.Replayed.{all_are_taken}
use Rattle.st_world_messages.proofs.laws.world_logs_are_replayed.Goals as goal

pub returns : goal.returns
returns c = λ h n w texts t few are. all_are_taken h n w t few texts are
