use Rattle.st_bridge.proofs.WaysTaken.{way_forth}
use Rattle.st_bridge.proofs.ways.way_from_void.Goals as goal

pub returns-in_ok-step_back-in-Some : goal.returns-in_ok-step_back-in-Some
returns-in_ok-step_back-in-Some c = λ D N v x f short plain emb is.
    way_forth D N x f short plain v c.in_ok-way_to_void.field-0 c.in-Some.way c.in_ok-step_back-in-Some.field-0 c.in-Some.is is (c.in_ok-way_to_void.ensures D N v x f short plain emb is) c.in_ok-step_back-in-Some.ensures
