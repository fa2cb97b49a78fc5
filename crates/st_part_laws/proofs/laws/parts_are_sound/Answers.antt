use Rattle.st_part_laws.proofs.Parts.{part_sound}
use Rattle.st_part_laws.proofs.laws.parts_are_sound.Goals as goal

pub returns : goal.returns
returns c = part_sound
