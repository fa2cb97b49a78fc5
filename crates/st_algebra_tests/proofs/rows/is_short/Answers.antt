use Rattle.std.proofs.Common.{rules}
use Rattle.st_marks.specs.Row.{spread}
use Rattle.st_rows.proofs.ShortRows.{is_short}
use Rattle.st_algebra_tests.proofs.rows.is_short.Goals as goal

pub returns : goal.returns
returns c = let h = is_short c.after.result (spread c.args.marks.now) c.after.ensures in search rules
