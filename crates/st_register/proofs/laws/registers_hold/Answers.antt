use Rattle.st_register.proofs.Documents.{can_hold}
use Rattle.st_register.proofs.laws.registers_hold.Goals as goal

pub returns : goal.returns
returns c = can_hold
