use Rattle.st_marks.proofs.OneVerdict.{one_run, run_extends, run_front, run_then}
use Rattle.st_marks.proofs.laws.run_in_turn.Goals as goal

pub returns : goal.returns
returns c = record {
  one = λ D E F Ns r q. one_run r q;
  extends = λ D E Ns r s f. run_extends r s f;
  front = λ D F Ns Ms r s f. run_front Ns r s f;
  then = λ D E F Ns Ms r q. run_then r q;
}
