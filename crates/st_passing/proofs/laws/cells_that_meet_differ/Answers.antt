use Rattle.st_passing.proofs.CellsThatMeet.{filled, gone, taken}
use Rattle.st_passing.proofs.laws.cells_that_meet_differ.Goals as goal

pub returns-clause-taken : goal.returns-clause-taken
returns-clause-taken v = taken

pub returns-clause-filled : goal.returns-clause-filled
returns-clause-filled v = filled

pub returns-clause-gone : goal.returns-clause-gone
returns-clause-gone v = gone
