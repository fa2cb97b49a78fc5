use Rattle.st_register.proofs.KindLaws.{has_change}
use Rattle.st_register.proofs.kind.RegisterFieldKind.has_embedding.Goals as goal

pub returns : goal.returns
returns c = has_change
