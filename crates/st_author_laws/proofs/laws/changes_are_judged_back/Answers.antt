use Rattle.st_author_laws.proofs.ChangesOver.{author_over}
use Rattle.st_author_laws.proofs.laws.changes_are_judged_back.Goals as goal

pub returns : goal.returns
returns c = author_over
