use Rattle.st_schema_laws.proofs.TypedEdits.{any_typed}
use Rattle.st_schema_laws.proofs.tree_laws.resolved_edits_are_typed.Goals as goal

pub returns : goal.returns
returns c = λ is_array D s G edit N sound schema tells typed nodes cells e. any_typed is_array D s G sound schema tells typed edit N nodes cells e
