use Rattle.st_parts.proofs.TrimmedChanges.{trimmed_change}
use Rattle.st_parts.proofs.laws.trimmed_changes_are_changes.Goals as goal

pub returns : goal.returns
returns c = trimmed_change
