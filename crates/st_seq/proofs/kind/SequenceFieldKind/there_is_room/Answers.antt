use Rattle.st_rows.proofs.KindLaws.{row_has_room}
use Rattle.st_seq.proofs.kind.SequenceFieldKind.there_is_room.Goals as goal

pub returns : goal.returns
returns c = row_has_room
