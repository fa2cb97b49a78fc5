use Rattle.st_register.proofs.KindLaws.{one_change}
use Rattle.st_register.proofs.kind.RegisterFieldKind.one_embedding.Goals as goal

pub returns : goal.returns
returns c = one_change
