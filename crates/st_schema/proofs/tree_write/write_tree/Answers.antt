use Rattle.serde_json.specs.View.{view as value_view}
use Rattle.st_tree.specs.Node.{view}
use Rattle.st_schema.proofs.Shaped.{written_again}
use Rattle.st_schema.proofs.tree_write.write_tree.Goals as goal

pub returns-in_ok-tree_value-in-Ok-clause-again : goal.returns-in_ok-tree_value-in-Ok-clause-again
returns-in_ok-tree_value-in-Ok-clause-again c = λ text d is shows. written_again text d (value_view c.in_ok-tree_value-in-Ok.field-0) (view c.args.tree.now) c.in_ok-tree_value-in-Ok.ensures is shows
