use Rattle.st_part_pair_laws.proofs.PartsStand.{one_change}
use Rattle.st_part_pair_laws.proofs.laws.one_change_of_parts.Goals as goal

pub returns : goal.returns
returns c = one_change
