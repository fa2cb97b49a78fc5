use Rattle.st_moves.proofs.RoomAfter.{have_room}
use Rattle.st_moves.proofs.laws.documents_have_room.Goals as goal

pub returns : goal.returns
returns c = have_room
