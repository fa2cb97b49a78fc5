use Rattle.std.proofs.Common.{sym, ap, ◌∙◌, cond, Some, None}
use Rattle.std.specs.BTreeMap.{get}
use Rattle.std.specs.List.{list_any}
use Rattle.std.specs.Option.{option_or}
use Rattle.st_ids.specs.Order.{same_cell, cell_cmp}
use Rattle.st_marks.specs.declared.intents.Group.{Group}
use Rattle.st_marks.specs.declared.intents.Owned.{Owned}
use Rattle.st_doc.proofs.Look.{valued_more}
use Rattle.st_doc.proofs.names.add_rows.Goals as goal

pub loop-group-preserved : goal.loop-group-preserved
loop-group-preserved c = λ d.
    let g = c.group-item.result in
    valued_more (λ (h : Group). list_any (λ (o : Owned). same_cell o.cell d) h.cells) (λ (h : Group). h.node) (get cell_cmp c.args.row_of.now d) (get cell_cmp c.loop-group.row_of d) (get cell_cmp c.add_cells.new.row_of d)
    c.as_slice-group-items.result.now c.loop-group.group-index g g c.loop-group-test.true (sym c.group-item.is) (c.loop-group.invariant d)
    (c.in_ok-add_cells.ensures d ∙ ap (λ cells. option_or (get cell_cmp c.loop-group.row_of d) (cond (list_any (λ (o : Owned). same_cell o.cell d) cells) (Some g.node) None)) c.as_slice.ensures)
