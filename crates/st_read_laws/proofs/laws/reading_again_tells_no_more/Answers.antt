use Rattle.st_read_laws.proofs.Readings.{change-twice, step-twice}
use Rattle.st_read_laws.proofs.laws.reading_again_tells_no_more.Goals as goal

pub returns-clause-change : goal.returns-clause-change
returns-clause-change c = change-twice

pub returns-clause-step : goal.returns-clause-step
returns-clause-step c = step-twice
