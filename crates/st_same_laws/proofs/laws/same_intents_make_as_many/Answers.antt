use Rattle.st_same_laws.proofs.CountsOfNames.{nodes_same, cells_same}
use Rattle.st_same_laws.proofs.laws.same_intents_make_as_many.Goals as goal

pub returns-clause-nodes : goal.returns-clause-nodes
returns-clause-nodes c = nodes_same

pub returns-clause-cells : goal.returns-clause-cells
returns-clause-cells c = cells_same
