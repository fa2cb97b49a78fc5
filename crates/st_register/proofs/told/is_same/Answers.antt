use Rattle.st_register.proofs.Occupants.{decided}
use Rattle.st_register.proofs.told.is_same.Goals as goal

pub returns-clause-same : goal.returns-clause-same
returns-clause-same c = decided _ _ _ c.is_one.ensures.0 c.is_one.ensures.1
