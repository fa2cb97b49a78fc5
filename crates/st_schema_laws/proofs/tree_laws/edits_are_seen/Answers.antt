use Rattle.st_schema_laws.proofs.Edits.{any_verdict, any_seen}
use Rattle.st_schema_laws.proofs.tree_laws.edits_are_seen.Goals as goal

pub returns : goal.returns
returns c = record { verdict = any_verdict; tree = any_seen }
