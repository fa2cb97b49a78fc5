use Rattle.st_read_laws.proofs.Readings.{read_listed, listed_read, step_read_listed, step_listed_read}
use Rattle.st_read_laws.proofs.laws.listed_ones_are_whole.Goals as goal

pub returns-clause-change : goal.returns-clause-change
returns-clause-change c = λ D N C. (read_listed D N C, listed_read D N C)

pub returns-clause-step : goal.returns-clause-step
returns-clause-step c = λ D E S. (step_read_listed D E S, step_listed_read D E S)
