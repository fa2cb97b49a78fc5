use Rattle.st_three_laws.proofs.OverParts.{next_agrees, next_room}
use Rattle.st_three_laws.proofs.laws.next_is_not_refused.Goals as goal

pub returns : goal.returns
returns c = record {
  agree = λ C K a b u w v x g leads gu ga first. next_agrees c.stand_in_turn.ensures C K a b u w v x g leads gu ga first;
  room = λ C K a b u w v x g leads gu room ga first. next_room c.stand_in_turn.ensures c.documents_have_room.ensures C K a b u w v x g leads gu room ga first;
}
