use Rattle.std.proofs.Common.{sym, ◌∙◌}
use Rattle.st_fast_path.proofs.passes.pass.Goals as goal

pub returns-clause-passes : goal.returns-clause-passes
returns-clause-passes c = λ e. c.tests_tell.ensures c.args.change.now c.args.step.now (sym c.tested.ensures ∙ e)
