use Rattle.std.proofs.Common.{sym}
use Rattle.st_doc.specs.Doc.{document_of}
use Rattle.st_step.proofs.Listed.{gained_known}
use Rattle.st_step.proofs.new.gained_node.Goals as goal

pub returns-then-is_in : goal.returns-then-is_in
returns-then-is_in c = gained_known c.args.node ((document_of c.args.doc.now).nodes c.args.node) ((document_of c.args.later.now).nodes c.args.node) (sym c.if-is_in.ensures)
