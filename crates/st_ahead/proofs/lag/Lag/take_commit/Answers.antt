use Rattle.st_ahead.proofs.Carried.{committed}
use Rattle.st_ahead.proofs.lag.Lag.take_commit.Goals as goal

pub returns : goal.returns
returns g c = λ O A T log session reference ids N w h end number author trunk shown.
    let q = c.args.self.now in
    let k = c.in_ok-carry_over.ensures O A log session reference q.last ids N w h.low h.within h.ahead author shown in
    committed g.R.Carrier.listed O log session reference ids N w T q c.carry_over.new.ahead c.carry_over.new.change c.args.number h end number trunk k.0 k.1
