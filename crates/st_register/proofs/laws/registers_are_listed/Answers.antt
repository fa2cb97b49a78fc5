use Rattle.st_register.proofs.Documents.{change_is, document_is, step_is}
use Rattle.std.proofs.Common.{refl}
use Rattle.st_register.proofs.laws.registers_are_listed.Goals as goal

pub returns : goal.returns
returns c = record {
  change = change_is;
  step = step_is;
  document = document_is;
  left = λ f x. refl;
}
