use Rattle.std.proofs.Common.{◌∙◌, [], ap}
use Rattle.std.specs.BTreeMap.{get}
use Rattle.std.specs.Ordering.{nat_cmp}
use Rattle.st_ahead.proofs.LagsEntered.{lags_with}
use Rattle.st_ahead.proofs.entering.lags_join.Goals as goal

pub returns : goal.returns
returns c = λ l O log uuid low number before.
    lags_with l O log c.args.session uuid c.at.result (λ s. get nat_cmp c.args.lags.now s) (λ s. get nat_cmp c.put_lag.new.lags s) low
    (c.at.ensures ∙ ap (λ n. record { reference = n; last = n; ahead = [] }) number) before c.in_ok-put_lag.ensures.own c.in_ok-put_lag.ensures.others
