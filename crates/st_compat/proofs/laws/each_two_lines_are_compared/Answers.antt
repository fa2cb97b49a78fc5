use Rattle.st_compat.proofs.Deciding.{are_compared}
use Rattle.st_compat.proofs.laws.each_two_lines_are_compared.Goals as goal

pub returns : goal.returns
returns c = are_compared
