use Rattle.st_marks.proofs.Full.{full_extends}
use Rattle.st_marks.proofs.Void.{void_extends}
use Rattle.st_marks.proofs.OneVerdict.{carried_extends}
use Rattle.st_marks.proofs.laws.carrying_out_extends.Goals as goal

pub returns : goal.returns
returns c = record {
  whole = λ D N s f short sound. full_extends D N s f short (λ p put ring. sound p (put, ring));
  void = void_extends;
  carried = carried_extends;
}
