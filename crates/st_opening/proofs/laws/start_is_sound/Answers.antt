use Rattle.st_opening.proofs.StartSound.{start_sound}
use Rattle.st_opening.proofs.laws.start_is_sound.Goals as goal

pub returns : goal.returns
returns c = start_sound
