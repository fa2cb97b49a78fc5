use Rattle.st_trim.proofs.Effects.{effect_covers}
use Rattle.st_trim.proofs.coverings.effects_are_covered.Goals as goal

pub returns : goal.returns
returns c = λ D N C x f change. effect_covers D N C x f change
