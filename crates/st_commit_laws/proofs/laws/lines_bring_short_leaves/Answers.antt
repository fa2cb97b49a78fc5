use Rattle.st_commit_laws.proofs.Lines.{line_short}
use Rattle.st_commit_laws.proofs.laws.lines_bring_short_leaves.Goals as goal

pub returns : goal.returns
returns c = λ s fits. line_short s fits
