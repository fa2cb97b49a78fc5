use Rattle.st_log_laws.proofs.Room.{row_bound, short_after, room_after, room_in_run}
use Rattle.st_log_laws.proofs.laws.rows_have_room.Goals as goal

pub returns : goal.returns
returns c = record {
  row = λ D N v n s f. row_bound D N s f n v;
  short = λ D N Ns s f room. short_after D N s f Ns room;
  carried = λ D N Ns v s f room. room_after D N s f Ns v room;
  run = λ D E Ns Ms s f r room. room_in_run Ms s f r room;
}
