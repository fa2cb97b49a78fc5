use Rattle.st_three_laws.proofs.Associative.{stand_three}
use Rattle.st_three_laws.proofs.laws.three_stand_in_turn.Goals as goal

pub returns : goal.returns
returns k = λ a b c u d l r wa wb wc gu lu gl ll gd ld gr lr. stand_three k.stand_in_turn.ensures a b c u d l r wa wb wc gu lu gl ll gd ld gr lr
