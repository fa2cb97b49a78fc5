use Rattle.st_part_laws.proofs.Closed.{closed_after, closed_at_first, closed_in_turn, closed_void}
use Rattle.st_part_laws.proofs.laws.parts_stay_closed.Goals as goal

pub returns : goal.returns
returns c = record {
  opening = closed_at_first;
  void = closed_void;
  one = closed_after;
  run = λ under chain rs D E Ns s f told line tell made first names closed r. closed_in_turn under chain rs r s f told line tell made first names closed;
}
