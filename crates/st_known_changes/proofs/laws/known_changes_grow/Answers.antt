use Rattle.st_known_changes.proofs.Known.{log_known, texts_on}
use Rattle.st_known_changes.proofs.laws.known_changes_grow.Goals as goal

pub returns : goal.returns
returns c = record {
  texts = λ O log es session before r n C texts within x. texts_on O r n C log es session before texts within x;
  entries = λ O log session r n C body all last. log_known O r n C log session body all last;
}
