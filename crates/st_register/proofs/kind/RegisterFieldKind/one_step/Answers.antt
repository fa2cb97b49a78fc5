use Rattle.st_register.proofs.KindLaws.{one_swap}
use Rattle.st_register.proofs.kind.RegisterFieldKind.one_step.Goals as goal

pub returns : goal.returns
returns c = one_swap
