use Rattle.st_log_laws.proofs.Turns.{has_run}
use Rattle.st_log_laws.proofs.Verdicts.{has_verdict}
use Rattle.st_log_laws.proofs.laws.each_has_a_verdict.Goals as goal

pub returns : goal.returns
returns c = record { verdict = λ D N s. has_verdict D N s; run = λ D Ns s f. has_run Ns D s f }
