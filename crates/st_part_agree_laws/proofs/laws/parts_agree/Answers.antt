use Rattle.st_part_agree_laws.proofs.PartsAgree.{agree_as_parts}
use Rattle.st_part_agree_laws.proofs.laws.parts_agree.Goals as goal

pub returns : goal.returns
returns c = λ D N M C K x parts sound short first next. agree_as_parts D N M C K x parts sound short first next
