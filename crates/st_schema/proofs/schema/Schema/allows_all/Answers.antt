use Rattle.std.proofs.Common.{◌∙◌, sym, ap}
use Rattle.st_tree.specs.Node.{trees_view}
use Rattle.st_schema.proofs.Walking.{settled, allows_all_walked}
use Rattle.st_schema.proofs.schema.Schema.allows_all.Goals as goal

pub returns-in-None : goal.returns-in-None
returns-in-None c =
    sym (ap settled c.in-None.is)
    ∙ allows_all_walked c.args.self.now c.args.types.now (trees_view c.args.trees.now) c.walk_trees.result (rw (c.as_slice.ensures, c.as_slice-2.ensures) at c.walk_trees.ensures)

pub returns-in-Some : goal.returns-in-Some
returns-in-Some c =
    sym (ap settled c.in-Some.is)
    ∙ allows_all_walked c.args.self.now c.args.types.now (trees_view c.args.trees.now) c.walk_trees.result (rw (c.as_slice.ensures, c.as_slice-2.ensures) at c.walk_trees.ensures)
