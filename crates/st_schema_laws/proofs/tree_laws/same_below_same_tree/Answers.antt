use Rattle.st_schema_laws.proofs.Alike.{same_below}
use Rattle.st_schema_laws.proofs.tree_laws.same_below_same_tree.Goals as goal

pub returns : goal.returns
returns c = λ is_array D E n d sound alike s. same_below is_array D E sound n d alike s
