use Rattle.st_over_step.proofs.Names.{told-cell}
use Rattle.st_over_step.proofs.rows.is_told_cell.Goals as goal

pub returns-in-Some : goal.returns-in-Some
returns-in-Some c = told-cell _ _ _ _ c.in-Some.is c.is_same_cell.ensures
