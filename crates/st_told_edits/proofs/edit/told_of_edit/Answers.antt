use Rattle.std.proofs.Common.{◌∙◌}
use Rattle.st_doc.specs.Doc.{document_of}
use Rattle.st_told_edits.proofs.Meaning.{means, refused, told}
use Rattle.st_told_edits.proofs.edit.told_of_edit.Goals as goal

pub embed-requires-clause-fits : goal.embed-requires-clause-fits
embed-requires-clause-fits c = c.requires.fits c.in-Ok.intent (means (document_of c.args.doc.now) c.args.schema.now c.args.given c.args.edit.now ∙ c.in-Ok.ensures.ok)

pub returns-in_ok-change-in-Ok : goal.returns-in_ok-change-in-Ok
returns-in_ok-change-in-Ok c = told (document_of c.args.doc.now) c.args.schema.now c.args.given c.args.edit.now c.in-Ok.intent c.in_ok-change-in-Ok.change c.in-Ok.ensures.ok c.in_ok-change-in-Ok.ensures

pub returns-in-Err-Fault : goal.returns-in-Err-Fault
returns-in-Err-Fault c = refused (document_of c.args.doc.now) c.args.schema.now c.args.given c.args.edit.now c.in-Err-Fault.field-0 _ c.in-Err-Fault.field-0-is c.in-Err-Fault.ensures.bad
