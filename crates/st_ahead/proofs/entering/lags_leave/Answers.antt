use Rattle.std.proofs.Common.{subst, sym}
use Rattle.std.specs.BTreeMap.{get}
use Rattle.std.specs.Ordering.{nat_cmp}
use Rattle.st_lists.specs.Log.{log_with}
use Rattle.st_lists.specs.declared.lists.Body.TheVariants.{Leave}
use Rattle.st_ahead.specs.Lags.{HasLag}
use Rattle.st_ahead.proofs.LagsEntered.{lags_stay, on_own}
use Rattle.st_ahead.proofs.entering.lags_leave.Goals as goal

pub returns : goal.returns
returns c = λ l O log before.
    let s = c.args.session in
    lags_stay l O log s Leave (λ t. get nat_cmp c.args.lags.now t) (λ t. get nat_cmp c.give_lag_back.new.lags t) before
    (subst (HasLag l O (log_with log s Leave) s) (sym c.give_lag_back.ensures.own) (on_own l O log s Leave)) c.give_lag_back.ensures.others
