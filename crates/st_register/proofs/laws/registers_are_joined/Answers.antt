use Rattle.st_register.proofs.JoinedIntents.{parts_join}
use Rattle.st_register.proofs.laws.registers_are_joined.Goals as goal

pub returns : goal.returns
returns c = parts_join
