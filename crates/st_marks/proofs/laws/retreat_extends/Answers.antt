use Rattle.st_marks.proofs.Retreat.{retreat_extends}
use Rattle.st_marks.proofs.laws.retreat_extends.Goals as goal

pub returns : goal.returns
returns c = retreat_extends
