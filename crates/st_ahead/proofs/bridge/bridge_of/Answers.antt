use Rattle.st_lists.specs.Log.{known_reference}
use Rattle.st_ahead.proofs.Bridged.{begun, is_bridge}
use Rattle.st_ahead.proofs.bridge.bridge_of.Goals as goal

pub returns : goal.returns
returns g c = λ O log session w window low h.
    let l = g.R.Carrier.listed in
    let k = known_reference session log in
    is_bridge l O log session c.go_over_all.new.bridge
    (c.in_ok-go_over_all.ensures O log session k w window low h (begun l O log session k c.no_step-bridge.result w c.no_step-bridge.ensures))
