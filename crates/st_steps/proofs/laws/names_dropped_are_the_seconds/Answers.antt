use Rattle.st_steps.proofs.DroppedNames.{dropped_is_named}
use Rattle.st_steps.proofs.laws.names_dropped_are_the_seconds.Goals as goal

pub returns : goal.returns
returns c = dropped_is_named
