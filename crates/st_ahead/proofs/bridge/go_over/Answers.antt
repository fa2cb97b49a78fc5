use Rattle.std.proofs.Common.{◌≡◌, ◌∷◌, ◌+◌, [], length, Some, drop, refl, subst}
use Rattle.std.specs.List.{slice_get}
use Rattle.std.proofs.lemmas.List.{drop_all}
use Rattle.std.proofs.lemmas.Option.{slice_get_read}
use Rattle.st_lemmas.proofs.Lists.{drop-slice_get}
use Rattle.st_ahead.proofs.Bridged.{IsOnTheWay, goes_over, went_over}
use Rattle.st_ahead.proofs.bridge.go_over.Goals as goal

pub loop-one-init : goal.loop-one-init
loop-one-init g c = λ O log session from place last up end before bridge. record { place = place; up = up; left = before; bridge = bridge }

pub loop-one-preserved : goal.loop-one-preserved
loop-one-preserved g c = λ O log session from place last up end before bridge.
    let l = g.R.Carrier.listed in
    let i = c.loop-one.one-index in
    let xs = c.args.ahead.now in
    let x = c.one-item.result in
    let there : slice_get xs i ≡ Some x = slice_get_read xs (length xs) i x refl c.loop-one-test.true c.one-item.is in
    let tail : drop i xs ≡ x ∷ drop (i + 1) xs = drop-slice_get xs i x there in
    goes_over l O log session from last x (drop (i + 1) xs) c.loop-one.bridge c.splice.new.step end
    (subst (λ ys. IsOnTheWay l O log session from last ys c.loop-one.bridge) tail (c.loop-one.invariant O log session from place last up end before bridge)) c.in_ok-splice.ensures

pub returns : goal.returns
returns g c = λ O log session from place last up end before bridge.
    let l = g.R.Carrier.listed in
    let none : drop c.loop-one.one-index c.args.ahead.now ≡ [] = drop_all c.loop-one.one-index c.args.ahead.now c.loop-one-test.false in
    went_over l O log session from last c.loop-one.bridge end
    (subst (λ ys. IsOnTheWay l O log session from last ys c.loop-one.bridge) none (c.loop-one.invariant O log session from place last up end before bridge))
