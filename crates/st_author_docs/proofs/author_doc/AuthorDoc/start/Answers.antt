use Rattle.st_author_docs.proofs.Authors.{begins}
use Rattle.st_author_docs.proofs.author_doc.AuthorDoc.start.Goals as goal

pub returns-clause-is : goal.returns-clause-is
returns-clause-is c = λ O log s within x. begins O log s c.args.base c.args.at within x
