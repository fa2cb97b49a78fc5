use Rattle.st_schema_laws.proofs.Filled.{setting_verdict, setting_seen}
use Rattle.st_schema_laws.proofs.tree_laws.setting_is_seen.Goals as goal

pub returns : goal.returns
returns c = record {
  verdict = setting_verdict;
  tree = λ is_array D s G at key t N d sound schema tells nodes cells e shows. setting_seen D s G at key t N sound schema nodes cells e is_array tells d shows;
}
