use Rattle.st_doc.proofs.Trees.{node_shows}
use Rattle.st_doc.proofs.laws.each_node_shows_a_tree.Goals as goal

pub returns : goal.returns
returns c = λ is_array D ns sound known n there. node_shows is_array D sound ns known n there
