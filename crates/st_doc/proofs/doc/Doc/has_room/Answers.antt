use Rattle.std.proofs.Common.{◌∙◌, sym}
use Rattle.st_doc.specs.Doc.{document_of}
use Rattle.st_doc.proofs.ShortRows.{room_tells}
use Rattle.st_doc.proofs.doc.Doc.has_room.Goals as goal

pub returns : goal.returns
returns c =
    let tells = room_tells (document_of c.args.self.now) c.args.intent.now c.requires in
    (λ e. tells.0 (sym c.rows_short.ensures ∙ e), λ h. c.rows_short.ensures ∙ tells.1 h)
