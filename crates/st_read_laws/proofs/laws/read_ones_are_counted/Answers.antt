use Rattle.st_read_laws.proofs.Readings.{counted_read, counted_step_read}
use Rattle.st_read_laws.proofs.laws.read_ones_are_counted.Goals as goal

pub returns-clause-change : goal.returns-clause-change
returns-clause-change c = counted_read

pub returns-clause-step : goal.returns-clause-step
returns-clause-step c = counted_step_read
