use Rattle.std.proofs.Common.{◌<◌, arith}
use Rattle.st_manager.proofs.Behind.{behind_all}
use Rattle.st_manager.proofs.keeping.comes_behind.Goals as goal

pub returns-in-Ok : goal.returns-in-Ok
returns-in-Ok c =
    let some : 0 < c.args.n = omega arith in
    behind_all c.args.n c.args.window.now.floor c.args.window.now.kept c.in-Ok.later.now c.is_empty.result some c.in-Ok.ensures.ok c.in-Ok.ensures.below.1 c.is_empty.ensures
