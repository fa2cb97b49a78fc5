use Rattle.std.proofs.Common.{◌≡◌, ◌∷◌, ◌+◌, [], length, Some, drop, refl, subst}
use Rattle.std.specs.List.{slice_get}
use Rattle.std.proofs.lemmas.List.{drop_all}
use Rattle.std.proofs.lemmas.Option.{slice_get_read}
use Rattle.st_lemmas.proofs.Lists.{drop-slice_get}
use Rattle.st_undo.proofs.GoingOver.{IsBeforePending, past_change, past_pending}
use Rattle.st_undo.proofs.carrying.go_over_pending.Goals as goal

pub loop-other-init : goal.loop-other-init
loop-other-init g c = λ T F Ns B none sound fit shown s. record { at = T; left = Ns; sound = sound; fit = fit; shown = shown; stands = s }

pub loop-other-preserved : goal.loop-other-preserved
loop-other-preserved g c = λ T F Ns B none sound fit shown s.
    let l = g.R.Carrier.listed in
    let i = c.loop-other.other-index in
    let x = c.other-item.result in
    let there : slice_get c.args.pending.now i ≡ Some x = slice_get_read c.args.pending.now (length c.args.pending.now) i x refl c.loop-other-test.true c.other-item.is in
    let tail : drop i c.args.pending.now ≡ x ∷ drop (i + 1) c.args.pending.now = drop-slice_get c.args.pending.now i x there in
    past_change l x (drop (i + 1) c.args.pending.now) F B c.loop-other.change c.go_over_change.new.change c.loop-other.verdict c.go_over_change.new.verdict none
    (subst (λ ks. IsBeforePending l ks F B c.loop-other.change c.loop-other.verdict) tail (c.loop-other.invariant T F Ns B none sound fit shown s)) c.in_ok-go_over_change.ensures

pub returns : goal.returns
returns g c = λ T F Ns B none sound fit shown s.
    let l = g.R.Carrier.listed in
    let end : drop c.loop-other.other-index c.args.pending.now ≡ [] = drop_all c.loop-other.other-index c.args.pending.now c.loop-other-test.false in
    past_pending l F B c.loop-other.change c.loop-other.verdict (subst (λ ks. IsBeforePending l ks F B c.loop-other.change c.loop-other.verdict) end (c.loop-other.invariant T F Ns B none sound fit shown s))
