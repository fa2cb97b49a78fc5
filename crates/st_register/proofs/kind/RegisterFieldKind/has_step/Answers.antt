use Rattle.st_register.proofs.KindLaws.{swap_between}
use Rattle.st_register.proofs.kind.RegisterFieldKind.has_step.Goals as goal

pub returns : goal.returns
returns c = swap_between
