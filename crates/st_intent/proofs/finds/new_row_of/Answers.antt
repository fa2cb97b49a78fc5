use Rattle.std.proofs.Common.{sym, ap, ◌∙◌, option_map}
use Rattle.std.specs.List.{list_any}
use Rattle.st_ids.specs.Order.{same_cell}
use Rattle.st_marks.specs.declared.intents.Group.{Group}
use Rattle.st_marks.specs.declared.intents.Owned.{Owned}
use Rattle.st_intent.proofs.Scans.{found_here, found_later}
use Rattle.st_intent.proofs.finds.new_row_of.Goals as goal

pub returns-then-has_cell : goal.returns-then-has_cell
returns-then-has_cell c =
    let cell = c.args.cell in
    ap (option_map (λ (g : Group). g.node)) (found_here (λ (g : Group). list_any (λ (o : Owned). same_cell o.cell cell) g.cells) c.as_slice-group-items.result.now c.loop-group.group-index c.group-item.result
    c.loop-group-test.true (sym c.group-item.is) (sym (c.if-has_cell.ensures ∙ ap (list_any (λ (o : Owned). same_cell o.cell cell)) c.as_slice.ensures)))
    ∙ c.loop-group.invariant

pub loop-group-preserved : goal.loop-group-preserved
loop-group-preserved c =
    let cell = c.args.cell in
    ap (option_map (λ (g : Group). g.node)) (found_later (λ (g : Group). list_any (λ (o : Owned). same_cell o.cell cell) g.cells) c.as_slice-group-items.result.now c.loop-group.group-index c.group-item.result
    c.loop-group-test.true (sym c.group-item.is) (sym (c.if-has_cell.ensures ∙ ap (list_any (λ (o : Owned). same_cell o.cell cell)) c.as_slice.ensures)))
    ∙ c.loop-group.invariant
