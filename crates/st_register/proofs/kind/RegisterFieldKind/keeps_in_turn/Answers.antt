use Rattle.st_register.proofs.KindLaws.{kept_in_turn}
use Rattle.st_register.proofs.kind.RegisterFieldKind.keeps_in_turn.Goals as goal

pub returns : goal.returns
returns c = kept_in_turn
