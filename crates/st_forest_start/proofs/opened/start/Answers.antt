use Rattle.st_tree.specs.Node.{view}
use Rattle.st_forest_start.proofs.Preordered.{few_listed}
use Rattle.st_forest_start.proofs.opened.start.Goals as goal

pub of_nodes-requires : goal.of_nodes-requires
of_nodes-requires c = few_listed (view c.args.tree.now) c.in-Ok.flat.nodes c.as_slice.result.now c.requires.within c.in-Ok.ensures.ok c.as_slice.ensures
