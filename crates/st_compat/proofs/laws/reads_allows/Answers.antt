use Rattle.st_compat.proofs.Reading.{reads_allow}
use Rattle.st_compat.proofs.laws.reads_allows.Goals as goal

pub returns : goal.returns
returns c = reads_allow
