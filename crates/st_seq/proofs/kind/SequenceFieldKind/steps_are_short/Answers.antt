use Rattle.st_rows.proofs.KindLaws.{row_steps_are_short}
use Rattle.st_seq.proofs.kind.SequenceFieldKind.steps_are_short.Goals as goal

pub returns : goal.returns
returns c = row_steps_are_short
