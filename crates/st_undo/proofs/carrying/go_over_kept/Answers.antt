use Rattle.std.proofs.Common.{◌≡◌, ◌∷◌, ◌+◌, [], length, Some, drop, refl, subst}
use Rattle.std.specs.List.{slice_get}
use Rattle.std.proofs.lemmas.List.{drop_all}
use Rattle.std.proofs.lemmas.Option.{slice_get_read}
use Rattle.st_lemmas.proofs.Lists.{drop-slice_get}
use Rattle.st_undo.proofs.GoingOver.{IsBefore, past_all, past_one}
use Rattle.st_undo.proofs.carrying.go_over_kept.Goals as goal

pub loop-one-init : goal.loop-one-init
loop-one-init g c = λ D T B none leads s. (D, leads, s)

pub loop-one-preserved : goal.loop-one-preserved
loop-one-preserved g c = λ D T B none leads s.
    let l = g.R.Carrier.listed in
    let i = c.loop-one.one-index in
    let x = c.one-item.result in
    let there : slice_get c.args.kept.now i ≡ Some x = slice_get_read c.args.kept.now (length c.args.kept.now) i x refl c.loop-one-test.true c.one-item.is in
    let tail : drop i c.args.kept.now ≡ x ∷ drop (i + 1) c.args.kept.now = drop-slice_get c.args.kept.now i x there in
    past_one l x (drop (i + 1) c.args.kept.now) T B c.loop-one.change c.go_over.new.change c.loop-one.verdict c.go_over.new.verdict none
    (subst (λ ks. IsBefore l ks T B c.loop-one.change c.loop-one.verdict) tail (c.loop-one.invariant D T B none leads s)) c.in_ok-go_over.ensures

pub returns : goal.returns
returns g c = λ D T B none leads s.
    let l = g.R.Carrier.listed in
    let end : drop c.loop-one.one-index c.args.kept.now ≡ [] = drop_all c.loop-one.one-index c.args.kept.now c.loop-one-test.false in
    past_all l T B c.loop-one.change c.loop-one.verdict (subst (λ ks. IsBefore l ks T B c.loop-one.change c.loop-one.verdict) end (c.loop-one.invariant D T B none leads s))
