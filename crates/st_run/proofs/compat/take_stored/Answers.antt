use Rattle.std.proofs.Common.{Some, refl}
use Rattle.st_run.proofs.Comparing.{stored_told}
use Rattle.st_run.proofs.compat.take_stored.Goals as goal

pub returns-in-Ok : goal.returns-in-Ok
returns-in-Ok c = stored_told c.args.number c.args.line.now c.in-Ok.read (Some c.in-Ok.read) c.tell_nothing.result c.in-Ok.ensures.ok refl c.tell_nothing.ensures
