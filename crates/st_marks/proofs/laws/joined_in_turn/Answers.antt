use Rattle.st_marks.proofs.Joined.{joined_in_turn}
use Rattle.st_marks.proofs.laws.joined_in_turn.Goals as goal

pub returns : goal.returns
returns c = joined_in_turn
