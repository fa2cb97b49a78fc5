use Rattle.st_schema_laws.proofs.OpeningShown.{opening_seen, opening_typed}
use Rattle.st_schema_laws.proofs.tree_laws.opening_is_seen.Goals as goal

pub returns : goal.returns
returns c = record {
  tree = λ is_array s types t schema tells ok few. opening_seen s is_array tells types t schema ok few;
  typed = λ is_array s types t schema tells ok few. opening_typed s is_array tells types t schema ok few;
}
