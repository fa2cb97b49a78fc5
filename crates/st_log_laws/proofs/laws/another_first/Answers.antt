use Rattle.st_log_laws.proofs.Beside.{another_first, another_later}
use Rattle.st_log_laws.proofs.laws.another_first.Goals as goal

pub returns : goal.returns
returns c = record { at_once = another_first; later = another_later }
