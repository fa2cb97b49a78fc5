use Rattle.st_conform_laws.proofs.ValidLists.{own_valid, valid_closed, valid_conform, valid_longer}
use Rattle.st_conform_laws.proofs.laws.valid_lists_conform.Goals as goal

pub returns : goal.returns
returns c = record {
  list = λ T O Ls sound made homes first valid new room. valid_conform T O sound made homes first valid new room;
  closed = λ T O Ls valid M h. valid_closed T O Ls valid M h;
  own = λ T O front Os valid own. own_valid T O front valid own;
  longer = λ T O As Bs N g v. valid_longer T O As Bs N g v;
}
