use Rattle.std.proofs.Common.{◌≤◌, ◌<◌, ◌∙◌, arith, length}
use Rattle.st_rebaser.proofs.Pushing.{finished, turned}
use Rattle.st_rebaser.proofs.push.push_through.Goals as goal

pub loop-place-preserved : goal.loop-place-preserved
loop-place-preserved g c =
    let kept = c.loop-place.invariant.kept in
    let within : c.loop-place.place < length c.loop-place.changes = omega arith in
    let t = turned g.R.Carrier.listed c.args.changes.now c.args.verdicts.now c.args.step.now c.loop-place.place c.loop-place.changes c.carry_at.new.changes
    c.loop-place.verdicts c.carry_at.new.verdicts c.loop-place.step c.carry_at.new.step within c.loop-place.invariant.goes_on c.in_ok-carry_at.ensures in
    record { kept = t.0 ∙ kept; goes_on = t.1 }

pub returns : goal.returns
returns g c =
    let kept = c.loop-place.invariant.kept in
    let past : length c.loop-place.changes ≤ c.loop-place.place = omega arith in
    finished g.R.Carrier.listed c.args.changes.now c.args.verdicts.now c.args.step.now c.loop-place.place c.loop-place.changes c.loop-place.verdicts c.loop-place.step
    past c.loop-place.invariant.goes_on
