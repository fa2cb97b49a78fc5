use Rattle.std.proofs.Common.{[], Some, take, unwrap_or, option_copied}
use Rattle.st_marks.specs.Listings.{cells_before}
use Rattle.st_marks.specs.Row.{spread}
use Rattle.st_over_step.specs.inside.Passing.{Passes}
use Rattle.st_over_step.proofs.rows.past_marks.Given as goal

abbrev pub invariant-loop-mark : goal.invariant-loop-mark
invariant-loop-mark l = Passes (unwrap_or (option_copied l.row) []) 0 (cells_before (spread (take l.mark-index l.marks))) (Some l.place)
