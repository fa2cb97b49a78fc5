use Rattle.st_part_laws.proofs.InEffect.{carried_in_effect, fits_in_effect, verdict_in_effect}
use Rattle.st_part_laws.proofs.laws.the_part_in_effect_is_carried.Goals as goal

pub returns : goal.returns
returns c = record { fits = fits_in_effect; verdict = verdict_in_effect; carried = carried_in_effect }
