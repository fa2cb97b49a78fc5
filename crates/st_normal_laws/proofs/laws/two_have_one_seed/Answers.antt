use Rattle.st_normal_laws.proofs.TwoSeed.{both_can_be_found, first_row, second_row, first_held, second_held}
use Rattle.st_normal_laws.proofs.laws.two_have_one_seed.Goals as goal

pub returns : goal.returns
returns c = record {
  together = λ F A B a b g. both_can_be_found F A B a b g;
  first_rows = λ F A B r a b g h. first_row F A B a b g r h;
  second_rows = λ F A B r a b g h. second_row F A B a b g r h;
  first_held = λ F A B h a b g i. first_held F A B a b g h i;
  second_held = λ F A B h a b g i. second_held F A B a b g h i;
}
