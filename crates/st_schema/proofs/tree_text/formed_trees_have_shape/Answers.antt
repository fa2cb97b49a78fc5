use Rattle.st_schema.proofs.Shaped.{form_shaped}
use Rattle.st_schema.proofs.tree_text.formed_trees_have_shape.Goals as goal

pub returns : goal.returns
returns c = form_shaped
