use Rattle.st_load_laws.proofs.Ending.{receiving_ends_soon, sending_ends_soon}
use Rattle.st_load_laws.proofs.Finding.{has_among}
use Rattle.st_load_laws.proofs.laws.loads_come_to_an_end.Goals as goal

pub returns : goal.returns
returns c = record {
  sending = λ h name n w has few l. sending_ends_soon h name n w (has_among name has) few l;
  receiving = λ h name n w has few l. receiving_ends_soon h name n w (has_among name has) few l;
}
