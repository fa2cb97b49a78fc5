use Rattle.std.proofs.Common.{sym, ap, ◌∙◌, ◌||◌, false}
use Rattle.std.specs.BTreeSet.{contains}
use Rattle.std.specs.List.{list_any}
use Rattle.st_ids.specs.Order.{cell_cmp, same_cell}
use Rattle.st_lemmas.proofs.FirstItems.{found_more}
use Rattle.st_marks.specs.declared.intents.Group.{Group}
use Rattle.st_marks.specs.declared.intents.Owned.{Owned}
use Rattle.st_embed.proofs.targets.made_cells.Goals as goal

pub loop-group-preserved : goal.loop-group-preserved
loop-group-preserved c = λ d.
    let g = c.group-item.result in
    found_more (λ (g : Group). list_any (λ (o : Owned). same_cell o.cell d) g.cells) false (contains cell_cmp c.loop-group.set d) (contains cell_cmp c.add_cells.new.set d)
    c.as_slice-group-items.result.now c.loop-group.group-index g g c.loop-group-test.true (sym c.group-item.is) (c.loop-group.invariant d)
    (c.in_ok-add_cells.ensures d ∙ ap (λ l. contains cell_cmp c.loop-group.set d || list_any (λ (o : Owned). same_cell o.cell d) l) c.as_slice.ensures)
