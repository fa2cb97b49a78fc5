use Rattle.st_passing.proofs.SilentRows.{silent_change, silent_counts, silent_step}
use Rattle.st_passing.proofs.laws.silent_rows_pass.Goals as goal

pub returns-clause-change : goal.returns-clause-change
returns-clause-change c = silent_change

pub returns-clause-step : goal.returns-clause-step
returns-clause-step c = silent_step

pub returns-clause-counts : goal.returns-clause-counts
returns-clause-counts c = silent_counts
