use Rattle.st_schema_laws.proofs.Cleared.{clearing_verdict, clearing_seen}
use Rattle.st_schema_laws.proofs.tree_laws.clearing_is_seen.Goals as goal

pub returns : goal.returns
returns c = record { verdict = clearing_verdict; tree = clearing_seen }
