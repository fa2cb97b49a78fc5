use Rattle.std.proofs.Common.{ap, []}
use Rattle.st_clash.specs.Views.{same_views}
use Rattle.st_clash.proofs.RowWalks.{end_counted}
use Rattle.st_clash.proofs.walk.turn_at_end.Goals as goal

pub returns-in-Counted : goal.returns-in-Counted
returns-in-Counted c vs front = let e = rw c.in-Counted.is at front in end_counted c.in-Counted.field-0 c.in-Counted.field-1.now vs e.0 e.1

pub returns-in-Named : goal.returns-in-Named
returns-in-Named c vs front = let e = rw c.in-Named.is at front in ap (same_views []) e
