use Rattle.st_schema.proofs.Shaped.{read_shaped}
use Rattle.st_schema.proofs.tree_text.read_trees_have_shape.Goals as goal

pub returns : goal.returns
returns c = read_shaped
