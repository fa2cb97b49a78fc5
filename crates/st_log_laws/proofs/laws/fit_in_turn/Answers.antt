use Rattle.st_log_laws.proofs.Beside.{one_fits}
use Rattle.st_log_laws.proofs.Turns.{front, rest, then, then_one, in_turn, turn_extends}
use Rattle.st_log_laws.proofs.laws.fit_in_turn.Goals as goal

pub returns : goal.returns
returns c = record {
  front = λ D Ns Ms f. front Ns Ms D f;
  rest = λ D E Ns Ms f r. rest Ms r f;
  then = λ D Ns Ms f g. then Ns Ms D f g;
  then_one = λ D E Ns Ms f r g. then_one Ns Ms f r g;
  run = λ D E Ns r f. in_turn r f;
  one = one_fits;
  extends = λ D E Ns s f r. turn_extends s f r;
}
