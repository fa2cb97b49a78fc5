use Rattle.st_doc.specs.Doc.{document_of}
use Rattle.st_author_tests.proofs.messages.agrees.Goals as goal

pub go_to-requires-clause-fit : goal.go_to-requires-clause-fit
go_to-requires-clause-fit c = record { opening = document_of c.args.opening.now; is = c.requires.is; fit = c.in_ok-plain.ensures.fit }
