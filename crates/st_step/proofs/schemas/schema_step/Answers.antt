use Rattle.std.proofs.Common.{sym}
use Rattle.st_step.proofs.Fronts.{behind_is, whole_is}
use Rattle.st_step.proofs.schemas.schema_step.Goals as goal

pub returns-then-is_whole : goal.returns-then-is_whole
returns-then-is_whole c = whole_is c.args.before.now c.args.after.now c.requires.begun c.requires.alike c.shared_front-front.result c.shared_front-front.ensures (sym c.if-is_whole.ensures)

pub returns : goal.returns
returns c = behind_is c.args.before.now c.args.after.now c.requires.begun c.requires.alike c.shared_front-front.result c.shared_front-front.ensures (sym c.if-is_whole.ensures) c.in_ok-step.step c.in_ok-step.ensures
