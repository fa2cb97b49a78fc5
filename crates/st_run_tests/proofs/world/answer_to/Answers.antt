use Rattle.std.proofs.Common.{arith, inr}
use Rattle.st_run_tests.proofs.world.answer_to.Goals as goal

pub step-requires-clause-may : goal.step-requires-clause-may
step-requires-clause-may c = let s = c.requires.stands in inr (0, s.0, s.1, s.2, omega arith)
