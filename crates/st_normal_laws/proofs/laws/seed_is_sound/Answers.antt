use Rattle.st_normal_laws.proofs.SeedSound.{seed_sound}
use Rattle.st_normal_laws.proofs.laws.seed_is_sound.Goals as goal

pub returns : goal.returns
returns c = λ F W w. seed_sound F W w
