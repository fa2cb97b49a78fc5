use Rattle.st_schema_laws.proofs.NewTrees.{insert_agrees, put_agrees}
use Rattle.st_schema_laws.proofs.laws.new_trees_agree.Goals as goal

pub returns : goal.returns
returns c = record { insert = insert_agrees; put = put_agrees }
