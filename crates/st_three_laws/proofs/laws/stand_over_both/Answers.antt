use Rattle.st_three_laws.proofs.OverParts.{stand_over_both}
use Rattle.st_three_laws.proofs.laws.stand_over_both.Goals as goal

pub returns : goal.returns
returns c = λ C a b u w v x g leads ga gu. stand_over_both c.stand_in_turn.ensures C a b u w v x g leads ga gu
