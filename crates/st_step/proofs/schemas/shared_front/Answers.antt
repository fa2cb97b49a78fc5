use Rattle.std.proofs.Common.{arith, sym, ◌∙◌}
use Rattle.st_step.proofs.Fronts.{agree_within, front_ends, front_more, no_front}
use Rattle.st_step.proofs.schemas.shared_front.Goals as goal

pub loop-front-init : goal.loop-front-init
loop-front-init c = no_front c.args.before.now c.args.after.now

pub loop-front-smaller : goal.loop-front-smaller
loop-front-smaller c = omega (arith, agree_within c.args.before.now c.args.after.now c.loop-front.front (sym c.agree_at.ensures ∙ c.loop-front-test.true))

pub loop-front-preserved : goal.loop-front-preserved
loop-front-preserved c = front_more c.args.before.now c.args.after.now c.loop-front.front (sym c.agree_at.ensures ∙ c.loop-front-test.true) c.loop-front.invariant

pub returns : goal.returns
returns c = front_ends c.args.before.now c.args.after.now c.loop-front.front (sym c.agree_at.ensures ∙ c.loop-front-test.false) c.loop-front.invariant
