use Rattle.std.proofs.Common.{◌≡◌, ◌∷◌, ◌+◌, [], length, map, Some, drop, refl, subst}
use Rattle.std.specs.List.{slice_get}
use Rattle.std.proofs.lemmas.List.{drop_all}
use Rattle.std.proofs.lemmas.Option.{slice_get_read}
use Rattle.st_lemmas.proofs.Lists.{drop-slice_get}
use Rattle.st_ahead.specs.inside.Lists.{ahead_of}
use Rattle.st_ahead.proofs.Bridged.{IsOnTheWay, goes_over, went_over}
use Rattle.st_ahead.proofs.bridge.go_over_kept.Goals as goal

pub loop-one-init : goal.loop-one-init
loop-one-init g c = λ O log session from place last up end before bridge. record { place = place; up = up; left = before; bridge = bridge }

pub loop-one-preserved : goal.loop-one-preserved
loop-one-preserved g c = λ O log session from place last up end before bridge.
    let l = g.R.Carrier.listed in
    let i = c.loop-one.one-index in
    let ks = c.args.kept.now in
    let k = c.one-item.result in
    let there : slice_get ks i ≡ Some k = slice_get_read ks (length ks) i k refl c.loop-one-test.true c.one-item.is in
    let tail : drop i ks ≡ k ∷ drop (i + 1) ks = drop-slice_get ks i k there in
    goes_over l O log session from last (ahead_of k) (map ahead_of (drop (i + 1) ks)) c.loop-one.bridge c.splice.new.step end
    (subst (λ js. IsOnTheWay l O log session from last (map ahead_of js) c.loop-one.bridge) tail (c.loop-one.invariant O log session from place last up end before bridge)) c.in_ok-splice.ensures

pub returns : goal.returns
returns g c = λ O log session from place last up end before bridge.
    let l = g.R.Carrier.listed in
    let none : drop c.loop-one.one-index c.args.kept.now ≡ [] = drop_all c.loop-one.one-index c.args.kept.now c.loop-one-test.false in
    went_over l O log session from last c.loop-one.bridge end
    (subst (λ js. IsOnTheWay l O log session from last (map ahead_of js) c.loop-one.bridge) none (c.loop-one.invariant O log session from place last up end before bridge))
