use Rattle.std.proofs.Common.{◌≡◌, IsSome, Some, refl, sym, subst, ◌∙◌, arith}
use Rattle.std.proofs.lemmas.Grind.{common_steps}
use Rattle.std.proofs.lemmas.Result.{IfOk-weaker}
use Rattle.std.specs.BTreeMap.{get}
use Rattle.std.specs.Ordering.{nat_cmp}
use Rattle.st_ahead.specs.Lags.{IsLagAt}
use Rattle.st_ahead.proofs.LagsEntered.{only_lag}
use Rattle.st_ahead.proofs.taking.commit_among.Goals as goal

pub returns-in-Some-clause-own : goal.returns-in-Some-clause-own
returns-in-Some-clause-own g c =
    let l = g.R.Carrier.listed in
    let s = c.args.session in
    let there : Some c.in-Some.lag.now ≡ get nat_cmp c.args.lags.now s = c.in-Some.ensures.value in
    let on = (c.get_mut.follows.holds c.commit_at.new.lag).3 (subst IsSome there refl) in
    let fresh : get nat_cmp (c.get_mut.follows.lender c.commit_at.new.lag) s ≡ Some c.commit_at.new.lag = let at = on.0 s in grind (arith, common_steps) in
    IfOk-weaker c.commit_at.result _ _
    (λ e does O A T log known ids N w number window low up within lag coming.
    let r = does O A T log s known ids N w number window low up within (subst (IsLagAt l O log s known) (only_lag lag.0 c.in-Some.lag.now (sym lag.1 ∙ sym there)) lag.2) coming in
    (r.0, (c.commit_at.new.lag, fresh, r.1)))
    c.commit_at.ensures
