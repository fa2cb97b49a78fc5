use Rattle.st_author_lists.proofs.KnownGoing.{known_next}
use Rattle.st_author_lists.proofs.laws.known_changes_stay.Goals as goal

pub returns : goal.returns
returns c = λ h w v s a r n C world rules known next. known_next h w v s a r n C world rules known next
