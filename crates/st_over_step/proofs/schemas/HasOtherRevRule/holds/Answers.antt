use Rattle.st_over_step.proofs.Names.{one-rev, denied}
use Rattle.st_over_step.proofs.schemas.HasOtherRevRule.holds.Goals as goal

pub returns : goal.returns
returns c = denied _ (one-rev _ _ _ c.is_same_rev.ensures)
