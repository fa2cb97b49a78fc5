use Rattle.st_author_laws.proofs.ChangesOver.{is_over}
use Rattle.st_author_laws.proofs.laws.changes_of_intents_are_over.Goals as goal

pub returns : goal.returns
returns c = is_over
