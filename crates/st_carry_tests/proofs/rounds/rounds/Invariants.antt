-- the document stays sound in form
use Rattle.st_marks.specs.Document.{IsSoundInForm}
use Rattle.st_doc.specs.Doc.{document_of}
use Rattle.st_carry_tests.proofs.rounds.rounds.Given as goal

abbrev pub invariant-loop-at : goal.invariant-loop-at
invariant-loop-at l = IsSoundInForm (document_of l.table.doc)
