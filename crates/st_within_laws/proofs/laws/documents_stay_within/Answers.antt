use Rattle.st_within_laws.proofs.Documents.{carried_within, run_within}
use Rattle.st_within_laws.proofs.laws.documents_stay_within.Goals as goal

pub returns : goal.returns
returns g c = record {
  carried = λ k D N v d i. carried_within (g.K.NameKind.atoms k) D N d i v;
  run = λ k D E Ns d is r. run_within (g.K.NameKind.atoms k) d is r;
}
