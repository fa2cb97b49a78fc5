use Rattle.std.proofs.Common.{codes}
use Rattle.st_world_laws.proofs.Begun.{header_opens}
use Rattle.st_run_tests.proofs.world.open_world.Goals as goal

pub new-requires : goal.new-requires
new-requires c = header_opens (codes "trace") c.as_bytes.result.now c.in-Ok.header c.in-Ok.ensures.ok
