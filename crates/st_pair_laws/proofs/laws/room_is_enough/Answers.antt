use Rattle.st_pair_laws.proofs.RoomInRows.{row_kept}
use Rattle.st_pair_laws.proofs.laws.room_is_enough.Goals as goal

pub returns : goal.returns
returns c = λ D E N C S x f short change step room n. row_kept D E N C S x f short change step room n
