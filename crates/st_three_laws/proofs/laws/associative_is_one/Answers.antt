use Rattle.st_three_laws.proofs.Associative.{one_whole}
use Rattle.st_three_laws.proofs.laws.associative_is_one.Goals as goal

pub returns : goal.returns
returns k = λ a b c u d l r wa wb wc gu lu gl ll gd ld gr lr. one_whole k.stand_in_turn.ensures a b c u d l r wa wb wc gu lu gl ll gd ld gr lr
