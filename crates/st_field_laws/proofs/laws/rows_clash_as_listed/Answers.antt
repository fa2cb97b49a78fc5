use Rattle.st_field_laws.proofs.RowClash.{row_clash}
use Rattle.st_field_laws.proofs.laws.rows_clash_as_listed.Goals as goal

pub returns : goal.returns
returns c = row_clash
