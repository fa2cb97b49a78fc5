use Rattle.st_marks.proofs.OneVerdict.{carried_extends}
use Rattle.st_bridge.proofs.ways.to_carried.Goals as goal

pub returns : goal.returns
returns c = λ D F N v x f short plain emb is y s. c.before_way.ensures D F N v (carried_extends D N v x f short is) f plain (c.in_ok-way.ensures D N v x f short plain emb is) y s
