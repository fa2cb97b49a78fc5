use Rattle.std.proofs.Common.{rules}
use Rattle.st_marks.specs.Row.{spread}
use Rattle.st_rows.proofs.ShortRows.{are_short}
use Rattle.st_algebra_tests.proofs.rows.are_short.Goals as goal

pub returns : goal.returns
returns c = let h = are_short c.after.result c.after-2.result (spread c.args.first.now) (spread c.args.then.now) c.after.ensures c.after-2.ensures in search rules
