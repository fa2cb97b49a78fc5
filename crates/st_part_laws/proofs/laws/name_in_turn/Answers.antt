use Rattle.st_part_laws.proofs.InTurn.{name_beside, name_front, name_rest, name_then_one}
use Rattle.st_part_laws.proofs.laws.name_in_turn.Goals as goal

pub returns : goal.returns
returns c = record {
  front = λ under chain D Ns Ms n. name_front under chain Ns Ms D n;
  rest = λ under chain D E Ns Ms n r. name_rest under chain Ms r n;
  then_one = λ under chain D E Ns Ms n r m. name_then_one under chain Ns Ms n r m;
  beside = λ under chain D E Ns h s t f g n. name_beside under chain Ns D E h s t f g n;
}
