use Rattle.std.proofs.Common.{[], unwrap_or, option_copied}
use Rattle.st_over_step.proofs.Passing.{passes_nothing, one_counted, none_counted}
use Rattle.st_over_step.proofs.rows.past_full.Goals as goal

pub loop-init : goal.loop-init
loop-init c = passes_nothing (unwrap_or (option_copied c.args.row) []) c.args.place

pub loop-preserved : goal.loop-preserved
loop-preserved c = one_counted (unwrap_or (option_copied c.args.row) []) c.args.place c.loop.counter c.loop.at c.past_cell.result c.in_ok-at.at c.loop.invariant c.past_cell.ensures c.in_ok-at.was

pub returns-in_err-at : goal.returns-in_err-at
returns-in_err-at c = none_counted (unwrap_or (option_copied c.args.row) []) c.args.place c.loop.counter c.args.count c.loop.at c.past_cell.result c.from_residual.result c.loop-test.true c.loop.invariant c.past_cell.ensures c.in_err-at.was c.from_residual.ensures
