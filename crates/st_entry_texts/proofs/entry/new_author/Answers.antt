use Rattle.std.proofs.Common.{[], arith}
use Rattle.st_doc.specs.Doc.{document_of}
use Rattle.st_entry_texts.proofs.Telling.{can_begin, opens, starts}
use Rattle.st_entry_texts.proofs.entry.new_author.Goals as goal

pub returns-clause-is : goal.returns-clause-is
returns-clause-is c = λ log session.
    starts (document_of c.args.opening.now) log session _
    (c.start.ensures.is (document_of c.args.opening.now) log session (omega arith) (opens (document_of c.args.opening.now) c.in_ok-base.base c.in_ok-base.ensures c.requires)) (c.new.ensures log)

pub returns-clause-can : goal.returns-clause-can
returns-clause-can c = λ before reference. can_begin before reference _ c.start.ensures.at c.start.ensures.seen (c.new.ensures []).read
