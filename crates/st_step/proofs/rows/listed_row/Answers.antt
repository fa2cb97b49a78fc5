use Rattle.std.proofs.Common.{sym, ap, ◌∙◌, map}
use Rattle.std.specs.BTreeSet.{contains}
use Rattle.std.specs.List.{list_any}
use Rattle.st_ids.specs.Order.{node_cmp}
use Rattle.st_doc.specs.Doc.{document_of}
use Rattle.st_embed.specs.inside.Marks.{tells_mark}
use Rattle.st_embed.proofs.Marking.{listed, unlisted}
use Rattle.st_step.specs.inside.Marks.{step_mark}
use Rattle.st_step.proofs.rows.listed_row.Goals as goal

pub returns-then-tells : goal.returns-then-tells
returns-then-tells c =
    let E = document_of c.args.later.now in
    listed c.args.node (map (step_mark (contains node_cmp c.args.mentioned.now) (document_of c.args.doc.now) E) (E.rows c.args.node)) c.push_row.new.marks c.in_ok-push_row.ensures
    (ap (list_any tells_mark) (sym c.as_slice.ensures) ∙ sym c.if-tells.ensures)

pub returns : goal.returns
returns c =
    let E = document_of c.args.later.now in
    unlisted c.args.node (map (step_mark (contains node_cmp c.args.mentioned.now) (document_of c.args.doc.now) E) (E.rows c.args.node)) c.push_row.new.marks c.in_ok-push_row.ensures
    (ap (list_any tells_mark) (sym c.as_slice.ensures) ∙ sym c.if-tells.ensures)
