use Rattle.std.proofs.Common.{◌≤◌, ◌<◌, ◌∙◌, refl, arith, length, drop, subst}
use Rattle.std.proofs.lemmas.List.{drop_all, take_all}
use Rattle.st_ahead.proofs.Carried.{AtPlace, arrived, begun, same_count, turned}
use Rattle.st_ahead.proofs.carrying.carry_over_all.Goals as goal

pub loop-place-init : goal.loop-place-init
loop-place-init g c = record {
  kept = refl;
  goes_on = λ O log session reference last ids N w low end before written. begun g.R.Carrier.listed O log session reference ids N w last c.args.ahead.now c.args.change.now c.args.verdict.now low before written;
}

pub loop-place-preserved : goal.loop-place-preserved
loop-place-preserved g c =
    let l = g.R.Carrier.listed in
    let kept = c.loop-place.invariant.kept in
    let within : c.loop-place.place < length c.loop-place.ahead = omega arith in
    record {
      kept = same_count l c.loop-place.place c.loop-place.ahead c.carry_at.new.ahead c.loop-place.change c.carry_at.new.change c.loop-place.verdict c.carry_at.new.verdict within c.in_ok-carry_at.ensures ∙ kept;
      goes_on = λ O log session reference last ids N w low end before written. turned l O log session reference ids N w last c.loop-place.place c.loop-place.ahead c.carry_at.new.ahead c.loop-place.change c.carry_at.new.change
          c.loop-place.verdict c.carry_at.new.verdict end within (c.loop-place.invariant.goes_on O log session reference last ids N w low end before written) c.in_ok-carry_at.ensures;
    }

pub returns : goal.returns
returns g c = λ O log session reference last ids N w low end before written.
    let l = g.R.Carrier.listed in
    let kept = c.loop-place.invariant.kept in
    let past : length c.loop-place.ahead ≤ c.loop-place.place = omega arith in
    let at = c.loop-place.invariant.goes_on O log session reference last ids N w low end before written in
    arrived l O log session reference ids N w last c.loop-place.ahead c.loop-place.change c.loop-place.verdict end
    (subst (λ rs. AtPlace l O log session reference ids N w last c.loop-place.ahead rs c.loop-place.change c.loop-place.verdict) (drop_all c.loop-place.place c.loop-place.ahead past)
    (subst (λ ds. AtPlace l O log session reference ids N w last ds (drop c.loop-place.place c.loop-place.ahead) c.loop-place.change c.loop-place.verdict) (take_all c.loop-place.place c.loop-place.ahead past) at))
