use Rattle.std.proofs.Common.{[], Some, unwrap_or, option_copied}
use Rattle.st_marks.specs.Listings.{cells_before}
use Rattle.st_marks.specs.Row.{counted_cells}
use Rattle.st_over_step.specs.inside.Passing.{Passes}
use Rattle.st_over_step.proofs.rows.past_full.Given as goal

abbrev pub invariant-loop : goal.invariant-loop
invariant-loop l = Passes (unwrap_or (option_copied l.row) []) l.place (cells_before (counted_cells l.counter [])) (Some l.at)
