use Rattle.std.proofs.Common.{◌≡◌, IsSome, Some, refl, sym, subst, ◌∙◌, arith}
use Rattle.std.proofs.lemmas.Grind.{common_steps}
use Rattle.std.specs.BTreeMap.{get}
use Rattle.std.specs.Ordering.{nat_cmp}
use Rattle.st_ahead.specs.Lags.{IsLagAt}
use Rattle.st_ahead.proofs.LagsEntered.{only_lag}
use Rattle.st_ahead.proofs.entering.raise_among.Goals as goal

pub returns-in-Some-clause-own : goal.returns-in-Some-clause-own
returns-in-Some-clause-own c = λ l O log known up within lag.
    let s = c.args.session in
    let there : Some c.in-Some.lag.now ≡ get nat_cmp c.args.lags.now s = c.in-Some.ensures.value in
    let on = (c.get_mut.follows.holds c.raise.new.self).3 (subst IsSome there refl) in
    let fresh : get nat_cmp (c.get_mut.follows.lender c.raise.new.self) s ≡ Some c.raise.new.self = let at = on.0 s in grind (arith, common_steps) in
    (c.raise.new.self, fresh, c.raise.ensures l O log s known up within (subst (IsLagAt l O log s known) (only_lag lag.0 c.in-Some.lag.now (sym lag.1 ∙ sym there)) lag.2))
