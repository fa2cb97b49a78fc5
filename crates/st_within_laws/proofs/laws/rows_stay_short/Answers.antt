use Rattle.st_within_laws.proofs.RowBounds.{full_bound, run_bound}
use Rattle.st_within_laws.proofs.laws.rows_stay_short.Goals as goal

pub returns : goal.returns
returns c = record { run = λ D E Ns n s f r. run_bound n s f r; full = λ D E Ns N n s f r g. full_bound n N s f r g }
