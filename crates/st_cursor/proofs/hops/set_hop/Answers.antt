use Rattle.std.proofs.Common.{sym}
use Rattle.st_cursor.proofs.Ways.{set_past}
use Rattle.st_cursor.proofs.hops.set_hop.Goals as goal

pub returns-in-None : goal.returns-in-None
returns-in-None c = set_past c.args.hops.now c.args.place c.args.hop (sym c.in-None.ensures.value)
