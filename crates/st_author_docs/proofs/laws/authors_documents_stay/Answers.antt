use Rattle.st_author_docs.proofs.Authors.{stays_longer, stays_shorter}
use Rattle.st_author_docs.proofs.laws.authors_documents_stay.Goals as goal

pub returns : goal.returns
returns c = record { longer = stays_longer; shorter = stays_shorter }
