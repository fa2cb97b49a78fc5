use Rattle.st_doc.specs.Doc.{document_of}
use Rattle.st_meaning.proofs.FitsToo.{is_changed, not_fitting}
use Rattle.st_meaning.proofs.meaning.is_change_of.Goals as goal

pub returns-in_ok-shown : goal.returns-in_ok-shown
returns-in_ok-shown c = is_changed (document_of c.args.doc.now) c.args.intent.now c.args.change.now c.in_ok-shown.shown c.is_same.result (c.fits.ensures.0 c.if-fits.true) c.in_ok-shown.ensures c.is_same.ensures

pub returns-else-fits : goal.returns-else-fits
returns-else-fits c = not_fitting (document_of c.args.doc.now) c.args.intent.now c.args.change.now c.fits.result c.if-fits.false c.fits.ensures
