use Rattle.st_log_laws.proofs.Names.{made_more, made_after}
use Rattle.st_log_laws.proofs.Turns.{made_in_run}
use Rattle.st_log_laws.proofs.laws.made_under.Goals as goal

pub returns : goal.returns
returns c = record { more = made_more; carried = made_after; run = λ rs D E Ns f r m. made_in_run rs f r m }
