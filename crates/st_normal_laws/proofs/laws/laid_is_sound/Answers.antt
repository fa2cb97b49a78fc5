use Rattle.st_normal_laws.proofs.LaidSound.{laid_sound}
use Rattle.st_normal_laws.proofs.laws.laid_is_sound.Goals as goal

pub returns : goal.returns
returns c = λ L w. laid_sound L w
