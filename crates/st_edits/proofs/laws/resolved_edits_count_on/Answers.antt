use Rattle.st_edits.proofs.Given.{resolved_counted}
use Rattle.st_edits.proofs.laws.resolved_edits_count_on.Goals as goal

pub returns : goal.returns
returns c = resolved_counted
