use Rattle.std.proofs.Common.{[], unwrap_or, option_copied}
use Rattle.st_marks.specs.Listings.{CellView}
use Rattle.st_over_step.proofs.Passing.{passes_none, passes_there, passes_other}
use Rattle.st_over_step.proofs.rows.past_cell.Goals as goal

pub returns-in_err-slot : goal.returns-in_err-slot
returns-in_err-slot c = passes_none (unwrap_or (option_copied c.args.row) []) c.args.place (let x : CellView = record { cell = c.args.cell; node = c.args.node; full = c.args.full } in x) c.slot_at.result c.from_residual.result c.slot_at.ensures.slot c.in_err-slot.was c.from_residual.ensures

pub returns-then-is_as_seen : goal.returns-then-is_as_seen
returns-then-is_as_seen c = passes_there (unwrap_or (option_copied c.args.row) []) c.args.place (let x : CellView = record { cell = c.args.cell; node = c.args.node; full = c.args.full } in x) c.slot_at.result c.in_ok-slot.slot c.is_as_seen.result c.slot_at.ensures.slot c.in_ok-slot.was c.is_as_seen.ensures c.if-is_as_seen.true

pub returns-else-is_as_seen : goal.returns-else-is_as_seen
returns-else-is_as_seen c = passes_other (unwrap_or (option_copied c.args.row) []) c.args.place (let x : CellView = record { cell = c.args.cell; node = c.args.node; full = c.args.full } in x) c.slot_at.result c.in_ok-slot.slot c.is_as_seen.result c.slot_at.ensures.slot c.in_ok-slot.was c.is_as_seen.ensures c.if-is_as_seen.false
