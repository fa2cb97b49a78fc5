use Rattle.st_over_step.proofs.Names.{one-held}
use Rattle.st_over_step.proofs.parts.is_same_held.Goals as goal

pub returns-in-Some-b : goal.returns-in-Some-b
returns-in-Some-b c = one-held c.args.a c.args.b c.in-Some.node c.in-Some-b.other c.is_same_node.result c.in-Some.is c.in-Some-b.is c.is_same_node.ensures
