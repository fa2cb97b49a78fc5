use Rattle.st_lemmas.proofs.Bools.{true-false}
use Rattle.st_steps.proofs.ShortSteps.{step_short}
use Rattle.st_laws.proofs.calls.way_back.Goals as goal

pub returns-else-has_short_rows : goal.returns-else-has_short_rows
returns-else-has_short_rows c = λ D E x s. absurd (true-false (c.has_short_rows.ensures.1 (step_short D E c.args.step.now x s)) c.if-has_short_rows.false)
