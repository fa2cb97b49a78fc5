use Rattle.st_schema_laws.proofs.Cleared.{needing_verdict, needing_seen}
use Rattle.st_schema_laws.proofs.tree_laws.needing_is_seen.Goals as goal

pub returns : goal.returns
returns c = record { verdict = needing_verdict; tree = needing_seen }
