use Rattle.std.specs.BTreeMap.{get}
use Rattle.std.specs.Ordering.{nat_cmp}
use Rattle.st_lists.specs.Log.{known_reference}
use Rattle.st_ahead.proofs.LagsEntered.{lag_of, lags_taken}
use Rattle.st_ahead.proofs.taking.lags_take.Goals as goal

pub returns : goal.returns
returns g c = λ O A T log ids N w number window low on up within lags coming.
    let l = g.R.Carrier.listed in
    let s = c.args.session in
    let k = c.in_ok-effected.ensures.own O A T log (known_reference s log) ids N w number window low up within (lag_of l O log s (get nat_cmp c.args.lags.now s) on (lags s)) coming in
    (k.0, lags_taken l O log s c.args.reference ids N (λ t. get nat_cmp c.args.lags.now t) (λ t. get nat_cmp c.commit_among.new.lags t) on up lags k.1 c.in_ok-effected.ensures.others)
