use Rattle.st_conform_laws.proofs.NodesThatConform.{full_conform, left_conform, void_conform}
use Rattle.st_conform_laws.proofs.laws.data_is_carried.Goals as goal

pub returns : goal.returns
returns c = record {
  whole = λ T D N rs s sound fits here own tells based front wide k. full_conform T D N rs s sound fits here own tells based front wide k;
  void = λ T D N rs s sound fits here own tells based front wide k. void_conform T D N rs s sound fits here own tells based front wide k;
  left = λ T D N rs s fits here own out. left_conform T D N rs s fits here own out;
}
