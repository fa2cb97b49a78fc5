use Rattle.st_schema_laws.proofs.Runs.{run_conforms}
use Rattle.st_schema_laws.proofs.laws.runs_conform.Goals as goal

pub returns : goal.returns
returns c = λ s home D E Ns r sound f here a. run_conforms s home r sound f here a
