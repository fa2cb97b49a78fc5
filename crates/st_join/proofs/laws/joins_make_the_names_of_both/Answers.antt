use Rattle.st_join.proofs.JoinNames.{cells_of_both, nodes_of_both}
use Rattle.st_join.proofs.laws.joins_make_the_names_of_both.Goals as goal

pub returns-clause-nodes : goal.returns-clause-nodes
returns-clause-nodes c = nodes_of_both

pub returns-clause-cells : goal.returns-clause-cells
returns-clause-cells c = cells_of_both
