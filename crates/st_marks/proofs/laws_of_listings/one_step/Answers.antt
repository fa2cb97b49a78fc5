use Rattle.st_marks.proofs.Unique.{one_step}
use Rattle.st_marks.proofs.laws_of_listings.one_step.Goals as goal

pub returns : goal.returns
returns c = one_step
