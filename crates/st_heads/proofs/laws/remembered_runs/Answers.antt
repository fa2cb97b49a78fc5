use Rattle.st_heads.proofs.Runs.{run_of, as_many, runs_joined, run_parted}
use Rattle.st_heads.proofs.laws.remembered_runs.Goals as goal

pub returns : goal.returns
returns c = record {
  run = λ D E Ns ks r. run_of r;
  as_many = λ D E Ns ks r. as_many r;
  joined = λ D E F Ns Ms ks ls r q. runs_joined r q;
  parted = λ D F Ns Ms ks ls r e. run_parted Ns Ms ks ls r e;
}
