use Rattle.std.proofs.Common.{◌∙◌, ap}
use Rattle.st_doc.specs.Doc.{document_of}
use Rattle.st_embed.specs.inside.Rows.{row_among}
use Rattle.st_embed.proofs.Naming.{row_found}
use Rattle.st_embed.proofs.targets.rows_of_cells.Goals as goal

pub returns : goal.returns
returns c = λ d.
    let D = document_of c.args.doc.now in
    c.in_ok-rows.ensures d ∙ ap (λ ns. row_among D ns d) c.as_slice.ensures ∙ row_found D c.requires c.in_ok-nodes.nodes c.in_ok-nodes.ensures.all d
