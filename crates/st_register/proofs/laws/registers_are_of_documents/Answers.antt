use Rattle.st_register.proofs.Documents.{part_fits, whole_is, void_is, back_is}
use Rattle.st_register.proofs.laws.registers_are_of_documents.Goals as goal

pub returns : goal.returns
returns c = record {
  fits = part_fits;
  whole = whole_is;
  void = void_is;
  back = back_is;
}
