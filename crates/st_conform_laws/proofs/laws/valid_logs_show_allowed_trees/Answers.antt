use Rattle.st_lists.specs.Log.{commits_in}
use Rattle.st_valid_laws.proofs.Standing.{all_stand, room_of_names}
use Rattle.st_valid_laws.proofs.ValidLogs.{have_new_revisions}
use Rattle.st_conform_laws.proofs.ValidEntries.{entries_have_schemas, entries_show}
use Rattle.st_conform_laws.proofs.ValidMessages.{valid_commits}
use Rattle.st_conform_laws.proofs.laws.valid_logs_show_allowed_trees.Goals as goal

pub returns : goal.returns
returns c = record {
  commits = λ O log sound made roomy v. valid_commits O sound made roomy v;
  tree = λ s O D log is_array d opened roomy v r tells shows.
      entries_show s O (commits_in log) opened (valid_commits O opened.sound opened.made roomy v) (have_new_revisions v)
      (room_of_names O (commits_in log) roomy (all_stand O opened.sound opened.made roomy v).names) D r is_array d tells shows;
  schemas = λ s O D log opened roomy v r e h.
      entries_have_schemas s O (commits_in log) opened (valid_commits O opened.sound opened.made roomy v) (have_new_revisions v)
      (room_of_names O (commits_in log) roomy (all_stand O opened.sound opened.made roomy v).names) D r e h;
}
