use Rattle.st_read_laws.proofs.Readings.{one_read, one_step_read}
use Rattle.st_read_laws.proofs.laws.one_is_read.Goals as goal

pub returns-clause-change : goal.returns-clause-change
returns-clause-change c = one_read

pub returns-clause-step : goal.returns-clause-step
returns-clause-step c = one_step_read
