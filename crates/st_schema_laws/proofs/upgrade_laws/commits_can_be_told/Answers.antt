use Rattle.st_schema_laws.proofs.Homes.{tells_own}
use Rattle.st_part_laws.proofs.Told.{told_chain, told_under}
use Rattle.st_schema_laws.proofs.Told.{commit_at_home, document_at_home, document_told, list_at_home, list_told, own_upgrade, own_view}
use Rattle.st_schema_laws.proofs.upgrade_laws.commits_can_be_told.Goals as goal

pub returns : goal.returns
returns c = record {
  under = λ T N new. told_under T.under N;
  chain = λ T N new other. told_chain T.chain N other;
  view = own_view;
  upgrade = own_upgrade;
  home = λ T N. tells_own T.home N;
  documents = λ T N new ss D s made fresh unders here. document_told T N new ss D s made fresh unders here;
  lists = λ T N new ss D Ms s made f fresh unders a. list_told T N new Ms ss D s made f fresh unders a;
  home_documents = λ T N D s absent here. document_at_home T N D s absent here;
  home_commits = λ T N M D puts new a. commit_at_home T N D M puts new a;
  home_lists = λ T N ss D Ms itself made f fresh a. list_at_home T N itself Ms ss D made f fresh a;
}
