use Rattle.st_doc.specs.Doc.{document_of}
use Rattle.st_lemmas.proofs.Bools.{true-false}
use Rattle.st_meaning.proofs.FitsToo.{fits_too}
use Rattle.st_meaning.proofs.meaning.intent.Goals as goal

pub returns-then-same-clause-some : goal.returns-then-same-clause-some
returns-then-same-clause-some c =
    let h = c.in_ok-same.ensures.0 c.if-same.true in
    (h.0, h.1, c.in_ok-told.ensures.order c.in_ok-told.told h.1)

pub returns-else-same-clause-none : goal.returns-else-same-clause-none
returns-else-same-clause-none c = λ none N f e.
    true-false (c.in_ok-same.ensures.1 (fits_too (document_of c.args.doc.now) N c.in_ok-told.told c.args.change.now f e (c.in_ok-told.ensures.exact N f e) (c.in_ok-told.ensures.order N e))) c.if-same.false
