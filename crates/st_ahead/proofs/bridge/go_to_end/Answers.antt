use Rattle.std.proofs.Common.{arith, length}
use Rattle.std.proofs.lemmas.Result.{on_ok_weaker}
use Rattle.st_ahead.proofs.Bridged.{kept_ahead}
use Rattle.st_ahead.proofs.bridge.go_to_end.Goals as goal

pub returns-in-Ok : goal.returns-in-Ok
returns-in-Ok g c = on_ok_weaker c.go_over_kept.result
    (λ goes O log session reference from written window low h bridge.
    goes O log session from c.args.lag.now.last (length log) h.within (omega arith) (kept_ahead g.R.Carrier.listed O log session reference c.args.window.now c.args.lag.now c.in-Ok.kept.now written window low h c.in-Ok.ensures.ok) bridge)
    c.go_over_kept.ensures
