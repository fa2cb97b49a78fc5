use Rattle.st_manager.proofs.BridgesNamed.{bridge_named}
use Rattle.st_manager.proofs.manager.Manager.bridge_of.Goals as goal

pub returns-in_ok-with_cells_named-in-Ok-clause-bridge : goal.returns-in_ok-with_cells_named-in-Ok-clause-bridge
returns-in_ok-with_cells_named-in-Ok-clause-bridge g c = λ t s.
    bridge_named g.R.Carrier.listed t c.args.self.now c.args.session c.in-Ok.bridge.now c.in_ok-with_cells_named-in-Ok.field-0 s c.in_ok-with_cells_named-in-Ok.ensures (c.in-Ok.ensures.bridge t s)
