use Rattle.st_run.proofs.Tracing.{same_noted}
use Rattle.st_run.proofs.trace.note.Goals as goal

pub returns-in_default : goal.returns-in_default
returns-in_default c = same_noted c.args.told c.args.answer.now c.args.authors.now
