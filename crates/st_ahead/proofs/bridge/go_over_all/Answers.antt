use Rattle.std.proofs.Common.{subst, sym}
use Rattle.std.proofs.lemmas.Result.{on_ok_weaker}
use Rattle.st_ahead.specs.Lags.{AreAhead}
use Rattle.st_ahead.proofs.bridge.go_over_all.Goals as goal

pub returns : goal.returns
returns g c = on_ok_weaker c.go_to_end.result
    (λ goes O log session reference w window low h bridge.
    let q = c.args.lag.now in
    let there = subst (AreAhead g.R.Carrier.listed O log session reference q.last) (sym c.as_slice.ensures) h.ahead in
    goes O log session reference reference w window low h (c.in_ok-go_over.ensures O log session reference reference q.last h.low h.within there bridge))
    c.go_to_end.ensures
