use Rattle.st_rows.proofs.KindLaws.{has_row_change}
use Rattle.st_seq.proofs.kind.SequenceFieldKind.has_embedding.Goals as goal

pub returns : goal.returns
returns c = has_row_change
