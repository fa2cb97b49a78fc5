use Rattle.st_valid_laws.proofs.RefusedByLog.{passed, refused}
use Rattle.st_valid_laws.proofs.laws.log_tests_come_first.Goals as goal

pub returns : goal.returns
returns c = record {
  refused = refused;
  passed = passed;
}
