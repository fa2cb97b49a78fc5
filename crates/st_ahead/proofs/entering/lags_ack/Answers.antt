use Rattle.std.specs.BTreeMap.{get}
use Rattle.std.specs.Ordering.{nat_cmp}
use Rattle.st_lists.specs.Log.{known_reference}
use Rattle.st_ahead.proofs.LagsEntered.{lag_of, lags_told}
use Rattle.st_ahead.proofs.entering.lags_ack.Goals as goal

pub returns : goal.returns
returns c = λ l O log on up within before.
    let s = c.args.session in
    lags_told l O log s c.args.reference (λ t. get nat_cmp c.args.lags.now t) (λ t. get nat_cmp c.raise_among.new.lags t) on up before
    (c.raise_among.ensures.own l O log (known_reference s log) up within (lag_of l O log s (get nat_cmp c.args.lags.now s) on (before s))) c.raise_among.ensures.others
