use Rattle.std.proofs.Common.{refl, sym, ◌∙◌, map}
use Rattle.std.specs.BTreeSet.{contains}
use Rattle.st_ids.specs.Order.{node_cmp}
use Rattle.st_ids.proofs.Orders.{node_cmp_exact}
use Rattle.st_marks.specs.declared.marks.RowMarks.{RowMarks}
use Rattle.st_doc.specs.Doc.{document_of}
use Rattle.st_embed.proofs.Listing.{listing}
use Rattle.st_embed.proofs.Wanting.{row_named}
use Rattle.st_step.specs.inside.Marks.{row_in, step_mark}
use Rattle.st_step.proofs.Listed.{no_row}
use Rattle.st_step.proofs.rows.rows_of.Goals as goal

pub returns : goal.returns
returns c =
    let D = document_of c.args.doc.now in
    let E = document_of c.args.later.now in
    let m = contains node_cmp c.args.mentioned.now in
    listing node_cmp node_cmp_exact (λ (r : RowMarks). r.node) (row_in m D E) (λ n r e. row_named n (map (step_mark m D E) (E.rows n)) r e)
    c.in_ok-nodes.nodes.keys c.in_ok-list.list (row_in m D E) c.in_ok-list.ensures.ordered c.in_ok-list.ensures.rows
    (λ q there. refl) (λ q e. no_row m D E c.requires.sound q (sym (c.in_ok-nodes.ensures q) ∙ e))
