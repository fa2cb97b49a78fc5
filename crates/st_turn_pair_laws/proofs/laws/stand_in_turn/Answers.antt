use Rattle.st_turn_pair_laws.proofs.Meeting.{schemas-meet}
use Rattle.st_turn_pair_laws.proofs.SchemasMeet.{schemas-are}
use Rattle.st_turn_pair_laws.proofs.SecondOver.{in_turn}
use Rattle.st_turn_pair_laws.proofs.laws.stand_in_turn.Goals as goal

pub returns : goal.returns
returns c = λ S T s t g. let h = schemas-are S T s.schema t.schema (schemas-meet S T s t g) in in_turn S T s t g h.0 h.1 h.2 h.3 h.4
