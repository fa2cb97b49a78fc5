use Rattle.std.proofs.Common.{[]}
use Rattle.st_lists.proofs.Branches.{lines_among}
use Rattle.st_lists.proofs.laws.lines_are_among.Goals as goal

pub returns : goal.returns
returns c = λ log main all branches b whole standing i. lines_among log main all whole [] branches (λ p j. absurd j) standing b i
