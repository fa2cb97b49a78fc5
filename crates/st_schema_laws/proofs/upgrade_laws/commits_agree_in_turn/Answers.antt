use Rattle.st_schema_laws.proofs.CommitsInTurn.{all_under, agree_beside, agree_front, agree_longer, agree_rest, agree_then_one, agrees_later}
use Rattle.st_schema_laws.proofs.upgrade_laws.commits_agree_in_turn.Goals as goal

pub returns : goal.returns
returns c = record {
  later = agrees_later;
  front = λ T D Ns Ms a. agree_front T Ns Ms D a;
  rest = λ T D E Ns Ms a r. agree_rest T Ms r a;
  then_one = λ T D E Ns Ms a r b. agree_then_one T Ns Ms a r b;
  beside = λ T D E Ns h s t f g a. agree_beside T Ns D E h s t f g a;
  longer = agree_longer;
  told = λ T D Ns s f a. all_under T Ns D s f a;
}
