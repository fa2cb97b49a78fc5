use Rattle.st_plain.proofs.Standing.{stands_small}
use Rattle.st_plain.proofs.laws.worlds_are_small.Goals as goal

pub returns : goal.returns
returns c = stands_small
