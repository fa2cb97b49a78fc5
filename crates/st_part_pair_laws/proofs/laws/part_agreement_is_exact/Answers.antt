use Rattle.st_part_pair_laws.proofs.PartsStand.{only_those, stand_as_parts}
use Rattle.st_part_pair_laws.proofs.laws.part_agreement_is_exact.Goals as goal

pub returns : goal.returns
returns c = λ C K. (only_those C K, λ w. stand_as_parts C K w.0 w.1 w.2)
