use Rattle.st_schema_laws.proofs.Removed.{removal_verdict, removal_seen}
use Rattle.st_schema_laws.proofs.tree_laws.removal_is_seen.Goals as goal

pub returns : goal.returns
returns c = record { verdict = removal_verdict; tree = removal_seen }
