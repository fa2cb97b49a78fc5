use Rattle.st_three_laws.proofs.OverParts.{over_parts_one}
use Rattle.st_three_laws.proofs.laws.over_parts_is_one.Goals as goal

pub returns : goal.returns
returns c = λ C L K R a b u w v x g leads gu left ga first next. over_parts_one c.stand_in_turn.ensures C K L R a b u w v x g leads gu left ga first next
