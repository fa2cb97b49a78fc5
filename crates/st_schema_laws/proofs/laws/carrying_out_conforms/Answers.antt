use Rattle.st_schema_laws.proofs.Kept.{carried_conforms}
use Rattle.st_schema_laws.proofs.laws.carrying_out_conforms.Goals as goal

pub returns : goal.returns
returns c = λ s home D N v sound fits here agrees. carried_conforms s home D N sound fits here agrees v
