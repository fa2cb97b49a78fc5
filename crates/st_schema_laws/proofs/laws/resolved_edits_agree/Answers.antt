use Rattle.st_schema_laws.proofs.Resolved.{resolved_agrees}
use Rattle.st_schema_laws.proofs.laws.resolved_edits_agree.Goals as goal

pub returns : goal.returns
returns c = λ s home D G edit N sound schema here nodes cells own e. resolved_agrees s home D G N sound schema here nodes cells own edit e
