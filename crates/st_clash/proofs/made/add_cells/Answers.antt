use Rattle.std.proofs.Common.{ap, get_or, refl, ◌∙◌, ◌++◌}
use Rattle.st_marks.specs.declared.marks.Mark.{Mark}
use Rattle.st_marks.specs.Listings.{cells_in}
use Rattle.st_clash.specs.inside.Made.{cell_of_mark}
use Rattle.st_clash.proofs.Names.{marks_more, marks_name}
use Rattle.st_clash.proofs.made.add_cells.Goals as goal

pub loop-mark-preserved : goal.loop-mark-preserved
loop-mark-preserved c =
    marks_more cells_in cell_of_mark marks_name c.args.list.now c.loop-mark.list c.push_if_some.new.list c.args.marks.now c.loop-mark.mark-index
    (Mark.Skip 0) (get_or c.args.marks.now c.loop-mark.mark-index (Mark.Skip 0)) c.loop-mark-test.true refl c.loop-mark.invariant
    (c.in_ok-push_if_some.ensures ∙ ap (λ l. c.loop-mark.list ++ l) c.cell_of.ensures)
