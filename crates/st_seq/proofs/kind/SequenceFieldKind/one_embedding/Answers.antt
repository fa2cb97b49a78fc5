use Rattle.st_rows.proofs.KindLaws.{one_row_change}
use Rattle.st_seq.proofs.kind.SequenceFieldKind.one_embedding.Goals as goal

pub returns : goal.returns
returns c = one_row_change
