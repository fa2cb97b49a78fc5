use Rattle.std.proofs.Common.{true, refl, sym, subst}
use Rattle.st_marks.specs.Intent.{Fits}
use Rattle.st_intent.proofs.Tells.{Tells}
use Rattle.st_doc.specs.Doc.{document_of}
use Rattle.st_doc.proofs.Fitting.{fits_tells}
use Rattle.st_doc.proofs.doc.Doc.fits.Goals as goal

pub returns-then-is_intent : goal.returns-then-is_intent
returns-then-is_intent c =
    let D = document_of c.args.self.now in
    let N = c.args.intent.now in
    subst (λ b. Tells b (Fits D N)) (sym c.names_fit.ensures) (fits_tells D N true c.requires (λ e. c.is_intent.ensures.0 c.if-is_intent.true, λ h. refl))
