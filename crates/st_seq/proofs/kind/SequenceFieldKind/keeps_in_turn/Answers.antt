use Rattle.st_rows.proofs.KindLaws.{kept_in_turn}
use Rattle.st_seq.proofs.kind.SequenceFieldKind.keeps_in_turn.Goals as goal

pub returns : goal.returns
returns c = kept_in_turn
