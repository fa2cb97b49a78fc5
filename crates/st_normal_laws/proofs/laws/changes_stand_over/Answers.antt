use Rattle.st_normal_laws.proofs.MeantIntent.{meant_fits}
use Rattle.st_normal_laws.proofs.StandsChange.{short_after, stands_over}
use Rattle.st_normal_laws.proofs.laws.changes_stand_over.Goals as goal

pub returns : goal.returns
returns c = record {
  fits = λ D C x w e o. meant_fits D C x w o e;
  short = λ D C x w e o. short_after D C x w o e;
  embedding = λ D C x w e o. stands_over D C x w o e;
}
