use Rattle.st_log_laws.proofs.Beside.{names_later, later_fits, all_fit_later}
use Rattle.st_log_laws.proofs.laws.fit_later.Goals as goal

pub returns : goal.returns
returns c = record { names = λ D E F As Bs g f r q. names_later D g f r q; fits = later_fits; list = all_fit_later }
