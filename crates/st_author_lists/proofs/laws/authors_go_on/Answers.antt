use Rattle.st_author_lists.proofs.Going.{authors_next}
use Rattle.st_author_lists.proofs.laws.authors_go_on.Goals as goal

pub returns : goal.returns
returns c = λ h w v s a world fit rules next. authors_next h w v s a world fit rules next
