use Rattle.st_schema_laws.proofs.Conformity.{conforms_after, conforms_at_first, conforms_edited, conforms_in_turn}
use Rattle.st_schema_laws.proofs.Lines.{line_after_conforms}
use Rattle.st_schema_laws.proofs.upgrade_laws.parts_conform.Goals as goal

pub returns : goal.returns
returns c = record {
  opening = conforms_at_first;
  one = λ T D N v s f short first a here h. conforms_after T D N s f a here short first v h;
  edited = λ T D N s f data_only in_effect a here. conforms_edited T D N s f a here data_only in_effect;
  run = λ T rs D E Ns s f made first a here r. conforms_in_turn T rs r s f made first a here;
  line = λ T O D Ns l r. line_after_conforms T O Ns l D r;
}
