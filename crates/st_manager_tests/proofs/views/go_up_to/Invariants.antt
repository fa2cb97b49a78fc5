-- the document stays sound in form
use Rattle.st_marks.specs.Document.{IsSoundInForm}
use Rattle.st_doc.specs.Doc.{document_of}
use Rattle.st_manager_tests.proofs.views.go_up_to.Given as goal

abbrev pub invariant-loop-it : goal.invariant-loop-it
invariant-loop-it l = IsSoundInForm (document_of l.doc)
