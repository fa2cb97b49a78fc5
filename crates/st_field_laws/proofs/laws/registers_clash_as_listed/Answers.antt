use Rattle.st_field_laws.proofs.RegisterClash.{register_clash}
use Rattle.st_field_laws.proofs.laws.registers_clash_as_listed.Goals as goal

pub returns : goal.returns
returns c = register_clash
