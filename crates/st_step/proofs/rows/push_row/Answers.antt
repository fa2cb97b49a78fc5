use Rattle.std.proofs.Common.{◌<◌, ◌^◌, refl, sym, ap, ◌∙◌, subst, length, get_or}
use Rattle.std.specs.BTreeSet.{contains}
use Rattle.st_ids.specs.Order.{node_cmp}
use Rattle.st_doc.specs.Doc.{document_of}
use Rattle.st_doc.proofs.Look.{no_cell}
use Rattle.st_embed.specs.inside.Marks.{with_cell}
use Rattle.st_step.specs.inside.Marks.{step_mark}
use Rattle.st_step.proofs.Growing.{one_more, room}
use Rattle.st_step.proofs.rows.push_row.Goals as goal

pub push_cell-requires : goal.push_cell-requires
push_cell-requires c =
    let os = c.cells-owned-items.result.now in
    room (step_mark (contains node_cmp c.args.mentioned.now) (document_of c.args.doc.now) (document_of c.args.later.now)) os c.loop-owned.owned-index c.loop-owned.marks c.loop-owned-test.true
    (subst (λ l. length l < 2 ^ 32) (sym c.cells-owned-items.ensures) (c.requires.sound.short c.args.node)) c.loop-owned.invariant

pub loop-owned-preserved : goal.loop-owned-preserved
loop-owned-preserved c =
    let os = c.cells-owned-items.result.now in
    one_more (step_mark (contains node_cmp c.args.mentioned.now) (document_of c.args.doc.now) (document_of c.args.later.now)) os c.loop-owned.owned-index no_cell (get_or os c.loop-owned.owned-index no_cell)
    c.loop-owned.marks c.push_cell.new.marks c.loop-owned-test.true refl c.loop-owned.invariant (c.in_ok-push_cell.ensures ∙ ap (with_cell c.loop-owned.marks) c.step_mark.ensures)
