use Rattle.st_forest.proofs.MapsCopied.{same_stands}
use Rattle.st_forest.proofs.forest.Forest.copy.Goals as goal

pub returns : goal.returns
returns c = λ D is.
    same_stands c.args.self.now (record { nodes = c.in_ok-nodes.nodes; rows = c.in_ok-rows.rows; held = c.in_ok-held.held; schemas = c.in_ok-schemas.schemas }) D
    c.in_ok-nodes.ensures c.in_ok-rows.ensures c.in_ok-held.ensures c.in_ok-schemas.ensures is
