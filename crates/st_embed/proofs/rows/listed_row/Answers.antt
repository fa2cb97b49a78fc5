use Rattle.std.proofs.Common.{sym, ap, ◌∙◌}
use Rattle.std.specs.BTreeSet.{contains}
use Rattle.std.specs.List.{list_any}
use Rattle.st_ids.specs.Order.{node_cmp}
use Rattle.st_marks.specs.Document.{content}
use Rattle.st_marks.specs.Row.{embed_row}
use Rattle.st_doc.specs.Doc.{document_of}
use Rattle.st_embed.specs.inside.Marks.{tells_mark}
use Rattle.st_embed.specs.inside.Wants.{part_in_row}
use Rattle.st_embed.proofs.Marking.{listed, unlisted}
use Rattle.st_embed.proofs.rows.listed_row.Goals as goal

pub returns-then-tells : goal.returns-then-tells
returns-then-tells c =
    let p = part_in_row c.args.wants.now (contains node_cmp c.args.mentioned.now) c.args.node in
    listed c.args.node (embed_row p (content (document_of c.args.doc.now) c.args.node)) c.push_row.new.marks c.in_ok-push_row.ensures
    (ap (list_any tells_mark) (sym c.as_slice.ensures) ∙ sym c.if-tells.ensures)

pub returns : goal.returns
returns c =
    let p = part_in_row c.args.wants.now (contains node_cmp c.args.mentioned.now) c.args.node in
    unlisted c.args.node (embed_row p (content (document_of c.args.doc.now) c.args.node)) c.push_row.new.marks c.in_ok-push_row.ensures
    (ap (list_any tells_mark) (sym c.as_slice.ensures) ∙ sym c.if-tells.ensures)
