use Rattle.std.proofs.Common.{sym}
use Rattle.st_ids.specs.Root.{root}
use Rattle.st_cursor.proofs.Ways.{end_read}
use Rattle.st_cursor.proofs.hops.end_of.Goals as goal

pub returns-in-Some : goal.returns-in-Some
returns-in-Some c = sym (end_read root c.args.hops.now c.in-Some.hop.now (sym c.in-Some.ensures.value))
