use Rattle.std.proofs.Common.{◌<◌, ◌^◌, ◌++◌, refl, sym, ◌∙◌, subst, length, map, get_or}
use Rattle.std.specs.BTreeMap.{get}
use Rattle.std.specs.BTreeSet.{contains}
use Rattle.st_ids.specs.Order.{node_cmp}
use Rattle.st_doc.specs.Doc.{document_of}
use Rattle.st_doc.proofs.Look.{no_cell}
use Rattle.st_embed.specs.inside.Marks.{made_mark}
use Rattle.st_embed.specs.inside.Wants.{part_in_row}
use Rattle.st_embed.proofs.Marking.{row_begun, row_room, row_step}
use Rattle.st_embed.proofs.rows.push_row.Goals as goal

pub loop-owned-init : goal.loop-owned-init
loop-owned-init c =
    row_begun (part_in_row c.args.wants.now (contains node_cmp c.args.mentioned.now) c.args.node) (document_of c.args.doc.now) c.push_made.new.marks
    (c.in_ok-push_made.ensures ∙ (λ i. c.requires.none i ++ map (made_mark (get node_cmp c.args.wants.now.targets)) (c.cells_at.ensures i)))

pub push_found-requires : goal.push_found-requires
push_found-requires c =
    let D = document_of c.args.doc.now in
    let os = c.cells-owned-items.result.now in
    row_room (part_in_row c.args.wants.now (contains node_cmp c.args.mentioned.now) c.args.node) D os c.loop-owned.owned-index c.loop-owned.marks c.loop-owned-test.true
    (subst (λ l. length l < 2 ^ 32) (sym c.cells-owned-items.ensures) (c.requires.sound.short c.args.node)) c.loop-owned.invariant

pub loop-owned-preserved : goal.loop-owned-preserved
loop-owned-preserved c =
    let os = c.cells-owned-items.result.now in
    row_step (part_in_row c.args.wants.now (contains node_cmp c.args.mentioned.now) c.args.node) (document_of c.args.doc.now) os c.loop-owned.owned-index no_cell (get_or os c.loop-owned.owned-index no_cell)
    c.loop-owned.marks c.push_found.new.marks c.loop-owned-test.true refl c.loop-owned.invariant c.in_ok-push_found.ensures
