use Rattle.std.proofs.Common.{◌∙◌}
use Rattle.st_marks.specs.Row.{spread}
use Rattle.st_passing.proofs.CountsRaised.{counts_raised}
use Rattle.st_passing.proofs.raise.raise_in_place.Goals as goal

pub returns-in_ok-raise_counts-clause-cells : goal.returns-in_ok-raise_counts-clause-cells
returns-in_ok-raise_counts-clause-cells c = λ h _. c.in_ok-raise_counts.ensures.cells ∙ counts_raised (spread c.args.marks.now) (spread c.args.step.now) h
