use Rattle.st_schema_laws.proofs.InTurn.{agree_front, agree_rest, agree_then_one, list_conforms}
use Rattle.st_schema_laws.proofs.laws.agree_in_turn.Goals as goal

pub returns : goal.returns
returns c = record {
  front = λ s home D Ns Ms a. agree_front s home Ns Ms D a;
  rest = λ s home D E Ns Ms a r. agree_rest s home Ms r a;
  then_one = λ s home D E Ns Ms a r b. agree_then_one s home Ns Ms a r b;
  conforms = λ s home D E Ns sound f here a r. list_conforms s home sound f here a r;
}
