use Rattle.st_over_step.proofs.Leading.{leads_where, leads_nowhere}
use Rattle.st_over_step.proofs.over.is_over_step_of_new_cells.Goals as goal

pub returns-then-finds_what_is_so : goal.returns-then-finds_what_is_so
returns-then-finds_what_is_so c = leads_where c.args.forest.now c.args.step.now _ _ _ c.finds_what_is_so.ensures c.if-finds_what_is_so.true c.as_slice.ensures c.schemas_are_so.ensures

pub returns-else-finds_what_is_so : goal.returns-else-finds_what_is_so
returns-else-finds_what_is_so c = leads_nowhere c.args.forest.now c.args.step.now _ c.finds_what_is_so.ensures c.if-finds_what_is_so.false
