use Rattle.st_over_step.proofs.Names.{told-node}
use Rattle.st_over_step.proofs.rows.is_told_node.Goals as goal

pub returns-in-Some : goal.returns-in-Some
returns-in-Some c = told-node _ _ _ _ c.in-Some.is c.is_same_node.ensures
