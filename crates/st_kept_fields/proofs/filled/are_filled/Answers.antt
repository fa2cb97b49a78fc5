use Rattle.st_doc.specs.Doc.{document_of}
use Rattle.st_kept_fields.proofs.Told.{filled_tell}
use Rattle.st_kept_fields.proofs.filled.are_filled.Goals as goal

pub returns : goal.returns
returns c = filled_tell c.args.schema.now c.is_kept.ensures (document_of c.args.doc.now) c.args.intent.now _ c.all_filled.ensures
