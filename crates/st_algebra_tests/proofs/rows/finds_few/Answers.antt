use Rattle.std.proofs.Common.{rules}
use Rattle.st_marks.specs.Row.{spread}
use Rattle.st_rows.proofs.ShortRows.{finds_few}
use Rattle.st_algebra_tests.proofs.rows.finds_few.Goals as goal

pub returns : goal.returns
returns c = let h = finds_few c.before-found.result (spread c.args.marks.now) c.before-found.ensures in search rules
