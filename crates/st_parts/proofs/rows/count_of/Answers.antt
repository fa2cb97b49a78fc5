use Rattle.std.proofs.Common.{arith}
use Rattle.st_marks.specs.Row.{spread}
use Rattle.st_parts.proofs.CutChanges.{found_fewer}
use Rattle.st_parts.proofs.rows.count_of.Goals as goal

pub overflow_cast-result : goal.overflow_cast-result
overflow_cast-result c = omega (arith, c.before-2.ensures, found_fewer (spread c.args.marks.now) c.requires)

pub returns : goal.returns
returns c = omega (arith, c.before-2.ensures, found_fewer (spread c.args.marks.now) c.requires)
