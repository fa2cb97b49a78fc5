use Rattle.st_carry.proofs.ShortBefore.{not_short}
use Rattle.st_carry.proofs.ThinValues.{step_as_short}
use Rattle.st_carry.proofs.calls.invert_of.Goals as goal

pub returns-then-not-has_short_rows-clause-exact : goal.returns-then-not-has_short_rows-clause-exact
returns-then-not-has_short_rows-clause-exact c = λ D E x s. not_short _ c.if-not-has_short_rows.true c.has_short_rows.ensures (c.steps_have_short_rows.ensures D E c.args.step.now x s)

pub returns-then-not-has_short_rows-clause-shown : goal.returns-then-not-has_short_rows-clause-shown
returns-then-not-has_short_rows-clause-shown c = λ D E x s. not_short _ c.if-not-has_short_rows.true c.has_short_rows.ensures (step_as_short c.args.step.now s.0 s.2 (c.steps_have_short_rows.ensures D E s.0 x s.1))
