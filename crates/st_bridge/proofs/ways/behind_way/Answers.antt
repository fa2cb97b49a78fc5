use Rattle.st_bridge.proofs.WaysTaken.{behind_it}
use Rattle.st_bridge.proofs.ways.behind_way.Goals as goal

pub returns-in-Some : goal.returns-in-Some
returns-in-Some c = λ D F N v x f plain leads y s. behind_it D F N v c.args.way c.in-Some.way c.args.step c.in_turn.result x f plain c.in-Some.is leads c.in_turn.ensures y s
