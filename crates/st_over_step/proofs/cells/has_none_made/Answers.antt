use Rattle.std.proofs.Common.{refl, arith}
use Rattle.st_over_step.specs.inside.Tables.{IsNotMade}
use Rattle.st_over_step.proofs.Along.{one_more, to_the_end}
use Rattle.st_over_step.proofs.cells.has_none_made.Goals as goal

pub loop-place-preserved : goal.loop-place-preserved
loop-place-preserved c = one_more (IsNotMade c.args.rows.now) c.args.slots.now c.loop-place.place c.loop-place.invariant c.in-Ok.slot c.in-Ok.ensures.ok (c.is_not_made.ensures.0 c.if-not-is_not_made.false)

pub returns : goal.returns
returns c = (λ t. to_the_end (IsNotMade c.args.rows.now) c.args.slots.now c.loop-place.place c.loop-place.invariant (let l = c.loop-place-test.false in let e = c.len-place-end.ensures.len in omega (arith, l, e)), λ h. refl)
