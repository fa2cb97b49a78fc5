use Rattle.st_register.proofs.Existence.{change_there, has_change, part_has_change}
use Rattle.st_register.proofs.laws.registers_have_changes.Goals as goal

pub returns : goal.returns
returns c = record {
  register = has_change;
  intent = part_has_change;
  listed = change_there;
}
