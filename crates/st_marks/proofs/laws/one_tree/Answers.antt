use Rattle.st_marks.proofs.OneTree.{one_tree, one_text}
use Rattle.st_marks.proofs.laws.one_tree.Goals as goal

pub returns : goal.returns
returns c = record { tree = one_tree; text = one_text }
