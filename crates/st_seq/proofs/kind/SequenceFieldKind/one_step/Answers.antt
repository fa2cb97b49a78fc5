use Rattle.st_rows.proofs.KindLaws.{one_row_step}
use Rattle.st_seq.proofs.kind.SequenceFieldKind.one_step.Goals as goal

pub returns : goal.returns
returns c = one_row_step
