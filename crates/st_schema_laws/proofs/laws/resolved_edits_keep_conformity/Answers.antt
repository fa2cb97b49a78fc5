use Rattle.st_schema_laws.proofs.Resolved.{kept_elsewhere}
use Rattle.st_schema_laws.proofs.laws.resolved_edits_keep_conformity.Goals as goal

pub returns : goal.returns
returns c = λ s home D E G edit N v sound schema here nodes cells own e there fits conforming same_nodes same_cells.
    kept_elsewhere s home D G N sound schema here nodes cells own edit E v e there fits conforming same_nodes same_cells
