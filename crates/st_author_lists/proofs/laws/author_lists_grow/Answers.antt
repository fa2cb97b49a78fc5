use Rattle.st_author_lists.proofs.Written.{author_more}
use Rattle.st_author_lists.proofs.laws.author_lists_grow.Goals as goal

pub returns : goal.returns
returns c = author_more
