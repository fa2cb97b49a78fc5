use Rattle.st_author_lists.proofs.Written.{begun_authors}
use Rattle.st_author_lists.proofs.laws.authors_begin.Goals as goal

pub returns : goal.returns
returns c = begun_authors
