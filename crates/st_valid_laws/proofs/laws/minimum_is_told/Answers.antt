use Rattle.st_valid_laws.proofs.ValidLogs.{minimum_told}
use Rattle.st_valid_laws.proofs.laws.minimum_is_told.Goals as goal

pub returns : goal.returns
returns c = minimum_told
