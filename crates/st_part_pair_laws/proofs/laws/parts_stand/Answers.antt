use Rattle.st_part_pair_laws.proofs.PartsStand.{stand_as_parts}
use Rattle.st_part_pair_laws.proofs.laws.parts_stand.Goals as goal

pub returns : goal.returns
returns c = stand_as_parts
