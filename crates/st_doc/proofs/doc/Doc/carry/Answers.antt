use Rattle.std.proofs.Common.{sym, subst}
use Rattle.st_marks.specs.Document.{IsSoundInForm}
use Rattle.st_marks.proofs.OneVerdict.{carried_extends}
use Rattle.st_doc.specs.Doc.{document_of}
use Rattle.st_doc.proofs.doc.Doc.carry.Goals as goal

pub returns-clause-still_sound : goal.returns-clause-still_sound
returns-clause-still_sound c = λ short.
    let D = document_of c.args.self.now in
    let N = c.args.intent.now in
    let v = c.in_ok-verdict.verdict in
    subst IsSoundInForm (sym c.in_ok-verdict.ensures.after) (carried_extends D N v c.requires.sound c.requires.fits short c.in_ok-verdict.ensures.verdict).after
