-- the document stays sound in form
use Rattle.st_marks.specs.Document.{IsSoundInForm}
use Rattle.st_doc.specs.Doc.{document_of}
use Rattle.st_draws.proofs.documents.others.Given as goal

abbrev pub invariant-loop-session : goal.invariant-loop-session
invariant-loop-session l = IsSoundInForm (document_of l.doc)
