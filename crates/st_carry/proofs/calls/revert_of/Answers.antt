use Rattle.st_carry.proofs.ShortBefore.{not_short}
use Rattle.st_carry.proofs.ThinValues.{step_as_short}
use Rattle.st_carry.proofs.calls.revert_of.Goals as goal

pub returns-then-not-has_short_rows-clause-exact : goal.returns-then-not-has_short_rows-clause-exact
returns-then-not-has_short_rows-clause-exact c = λ D E B x b has s. not_short _ c.if-not-has_short_rows.true c.has_short_rows.ensures (c.steps_have_short_rows.ensures D E c.args.step.now x s)

pub returns-then-not-has_short_rows-clause-shown : goal.returns-then-not-has_short_rows-clause-shown
returns-then-not-has_short_rows-clause-shown c = λ D E B x b has s. not_short _ c.if-not-has_short_rows.true c.has_short_rows.ensures (step_as_short c.args.step.now s.0 s.2 (c.steps_have_short_rows.ensures D E s.0 x s.1))

pub returns-clause-exact : goal.returns-clause-exact
returns-clause-exact c = λ D E B x b has s. c.revert.ensures.reverted D E B x s b has

pub returns-clause-shown : goal.returns-clause-shown
returns-clause-shown c = λ D E B x b has s. c.revert.ensures.shown D E B x s b has
