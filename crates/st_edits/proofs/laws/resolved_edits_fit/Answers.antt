use Rattle.st_edits.proofs.Resolved.{resolved_fits}
use Rattle.st_edits.proofs.laws.resolved_edits_fit.Goals as goal

pub returns : goal.returns
returns c = resolved_fits
