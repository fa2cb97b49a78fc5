use Rattle.st_schema_laws.proofs.Changes.{schemas_stay}
use Rattle.st_schema_laws.proofs.Widening.{widening_after, widening_begins}
use Rattle.st_schema_laws.proofs.upgrade_laws.schemas_widen.Goals as goal

pub returns : goal.returns
returns c = record { opening = widening_begins; after = widening_after; stay = schemas_stay }
