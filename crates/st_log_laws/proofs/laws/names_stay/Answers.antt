use Rattle.st_log_laws.proofs.Names.{names_itself, names_on, names_extended, names_stay, names_in_run}
use Rattle.st_log_laws.proofs.laws.names_stay.Goals as goal

pub returns : goal.returns
returns c = record {
  itself = names_itself;
  on = names_on;
  extended = names_extended;
  carried = names_stay;
  run = λ D E Ns r. names_in_run r;
}
