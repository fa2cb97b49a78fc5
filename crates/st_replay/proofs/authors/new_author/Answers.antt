use Rattle.std.proofs.Common.{arith}
use Rattle.st_doc.specs.Doc.{document_of}
use Rattle.st_replay.proofs.DocsKept.{opens}
use Rattle.st_replay.proofs.authors.new_author.Goals as goal

pub returns-clause-is : goal.returns-clause-is
returns-clause-is c = λ log session.
    c.start.ensures.is (document_of c.args.opening.now) log session (omega arith) (opens (document_of c.args.opening.now) c.in_ok-base.base c.in_ok-base.ensures c.requires)
