use Rattle.st_trim.proofs.WayBack.{back_covers}
use Rattle.st_trim.proofs.coverings.ways_back_are_covered.Goals as goal

pub returns : goal.returns
returns c = λ D E S x step. back_covers D E S x step
