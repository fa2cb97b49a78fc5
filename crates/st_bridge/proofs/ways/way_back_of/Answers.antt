use Rattle.st_bridge.proofs.WaysTaken.{way_back}
use Rattle.st_bridge.proofs.ways.way_back_of.Goals as goal

pub returns-in_ok-step_back-in-Sound : goal.returns-in_ok-step_back-in-Sound
returns-in_ok-step_back-in-Sound c = λ D N x f short plain is s.
    way_back D N x f short plain c.args.verdict c.args.step.now c.in_ok-step_back-in-Sound.field-0 c.in-Sound.is is s c.in_ok-step_back-in-Sound.ensures
