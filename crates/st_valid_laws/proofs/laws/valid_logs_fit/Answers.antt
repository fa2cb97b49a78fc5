use Rattle.st_marks.proofs.OneVerdict.{one_run}
use Rattle.st_log_laws.proofs.Turns.{has_run, turn_extends}
use Rattle.st_valid.specs.Author.{author_list}
use Rattle.st_valid_laws.proofs.Standing.{all_stand}
use Rattle.st_valid_laws.proofs.laws.valid_logs_fit.Goals as goal

pub returns : goal.returns
returns c = record {
  log = λ O log s m r v. (all_stand O s m r v).whole.fit;
  author = λ O log s m r v session reference low. ((all_stand O s m r v).authors session reference low).fit;
  document = λ O log s m r v session reference low.
      (let fit = ((all_stand O s m r v).authors session reference low).fit in
      let d = has_run (author_list log session reference) O s fit in
      (d.0, d.1, (turn_extends s fit d.1).after));
  one = λ O D E log session reference p q. one_run p q;
  closed = λ O log s m r v session reference low. ((all_stand O s m r v).authors session reference low).closed;
  names = λ O log s m r v. (all_stand O s m r v).names;
}
