use Rattle.st_schema_laws.proofs.InTurn.{agree_beside, agree_longer}
use Rattle.st_schema_laws.proofs.laws.agree_later.Goals as goal

pub returns : goal.returns
returns c = record { beside = agree_beside; longer = agree_longer }
