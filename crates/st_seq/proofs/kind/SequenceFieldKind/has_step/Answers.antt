use Rattle.st_rows.proofs.KindLaws.{has_row_step}
use Rattle.st_seq.proofs.kind.SequenceFieldKind.has_step.Goals as goal

pub returns : goal.returns
returns c = has_row_step
