use Rattle.st_conform_laws.proofs.DocumentsAfter.{conforms_after, conforms_at_first, conforms_edited, conforms_in_turn}
use Rattle.st_conform_laws.proofs.laws.nodes_conform.Goals as goal

pub returns : goal.returns
returns c = record {
  opening = λ T D s made one under here chain sound written. conforms_at_first T D s made one under here chain sound written;
  one = λ T D N v s f short first a here h. conforms_after T D N s f a here short first v h;
  edited = λ T D N s f e base a here. conforms_edited T D N s f a here e base;
  run = λ T rs D E Ns s f made first a here r. conforms_in_turn T rs r s f made first a here;
}
