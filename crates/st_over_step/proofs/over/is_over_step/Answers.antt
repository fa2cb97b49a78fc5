use Rattle.st_over_step.proofs.Leading.{leads_anew, leads_not}
use Rattle.st_over_step.proofs.over.is_over_step.Goals as goal

pub returns-then-is_over_step_of_new_cells : goal.returns-then-is_over_step_of_new_cells
returns-then-is_over_step_of_new_cells c = leads_anew c.args.forest.now c.args.step.now c.as_slice.result.now c.is_over_step_of_new_cells.result c.cells_are_new.result c.is_over_step_of_new_cells.ensures c.if-is_over_step_of_new_cells.true c.as_slice.ensures c.cells_are_new.ensures

pub returns-else-is_over_step_of_new_cells : goal.returns-else-is_over_step_of_new_cells
returns-else-is_over_step_of_new_cells c = leads_not c.args.forest.now c.args.step.now c.is_over_step_of_new_cells.result c.is_over_step_of_new_cells.ensures c.if-is_over_step_of_new_cells.false
