use Rattle.st_schema_laws.proofs.Moves.{move_verdict, move_seen}
use Rattle.st_schema_laws.proofs.tree_laws.move_is_seen.Goals as goal

pub returns : goal.returns
returns c = record {
  verdict = λ D s G at key index count to to_key to_index N sound schema cells e. move_verdict D s G at key index count to to_key to_index N sound schema cells e;
  tree = λ is_array D s G at key index count to to_key to_index N d sound schema tells typed cells e shows. move_seen D s G at key index count to to_key to_index N sound schema cells e is_array tells typed d shows;
}
