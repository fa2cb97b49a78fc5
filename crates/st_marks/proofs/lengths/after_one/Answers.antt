use Rattle.std.proofs.Common.{◌∙◌}
use Rattle.st_marks.proofs.MarkLengths.{counted_after}
use Rattle.st_marks.proofs.lengths.after_one.Goals as goal

pub returns-in-Skip : goal.returns-in-Skip
returns-in-Skip c = rw c.in-Skip.is (c.from.ensures ∙ counted_after _)
