use Rattle.st_equal_laws.proofs.LoadsEnd.{line_alike}
use Rattle.st_equal_laws.proofs.laws.loads_end_alike.Goals as goal

pub returns : goal.returns
returns c = line_alike
