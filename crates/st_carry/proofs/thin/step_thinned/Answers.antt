use Rattle.st_carry.proofs.ThinValues.{step_as_short, step_thin}
use Rattle.st_carry.proofs.thin.step_thinned.Goals as goal

pub returns : goal.returns
returns c = λ D E x s. step_thin D E c.args.step _ (c.in_ok-thin_step.ensures (step_as_short c.args.step s.0 s.2 (c.steps_have_short_rows.ensures D E s.0 x s.1))) s
