use Rattle.st_schema_laws.proofs.Inserted.{insertion_verdict, insertion_seen}
use Rattle.st_schema_laws.proofs.tree_laws.insertion_is_seen.Goals as goal

pub returns : goal.returns
returns c = record {
  verdict = insertion_verdict;
  tree = λ is_array D s G at key index trees N d sound schema tells nodes cells e shows. insertion_seen D s G at key index trees N sound nodes cells e is_array schema tells d shows;
}
