use Rattle.st_plain.proofs.Standing.{stands_and_goes_on}
use Rattle.st_plain.proofs.laws.each_step_has_a_next.Goals as goal

pub returns : goal.returns
returns c = stands_and_goes_on
