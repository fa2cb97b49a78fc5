use Rattle.std.proofs.Common.{ap, ◌∙◌, cond, get_or, Some, None, refl}
use Rattle.std.specs.BTreeMap.{get}
use Rattle.std.specs.List.{list_any}
use Rattle.std.specs.Option.{option_or}
use Rattle.st_ids.specs.Order.{cell_cmp, same_cell}
use Rattle.st_ids.specs.Root.{root}
use Rattle.st_ids.specs.declared.names.NodeId.{NodeId}
use Rattle.st_marks.specs.declared.intents.Owned.{Owned}
use Rattle.st_doc.specs.Doc.{document_of}
use Rattle.st_doc.proofs.Look.{added_more}
use Rattle.st_embed.proofs.targets.rows_by_cell.Goals as goal

pub loop-node-preserved : goal.loop-node-preserved
loop-node-preserved c = λ d.
    let n = get_or c.args.nodes.now c.loop-node.node-index root in
    added_more (λ (n : NodeId). list_any (λ (o : Owned). same_cell o.cell d) ((document_of c.args.doc.now).rows n)) None (get cell_cmp c.loop-node.rows d) (get cell_cmp c.keep_cells.new.rows d)
    c.args.nodes.now c.loop-node.node-index root n n c.loop-node-test.true refl refl (c.loop-node.invariant d)
    (c.in_ok-keep_cells.ensures d ∙ ap (λ l. option_or (get cell_cmp c.loop-node.rows d) (cond (list_any (λ (o : Owned). same_cell o.cell d) l) (Some n) None)) c.cells.ensures)
