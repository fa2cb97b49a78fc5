use Rattle.std.proofs.Common.{ap, get_or, refl, ◌∙◌, ◌++◌}
use Rattle.st_marks.specs.declared.marks.Mark.{Mark}
use Rattle.st_marks.specs.Listings.{cells_made}
use Rattle.st_clash.specs.inside.Made.{cell_made_by}
use Rattle.st_clash.proofs.Names.{marks_make, marks_more}
use Rattle.st_turn_names.proofs.owners.add_made.Goals as goal

pub loop-mark-preserved : goal.loop-mark-preserved
loop-mark-preserved c =
    marks_more cells_made cell_made_by marks_make c.args.list.now c.loop-mark.list c.push_if_some.new.list c.args.marks.now c.loop-mark.mark-index
    (Mark.Skip 0) (get_or c.args.marks.now c.loop-mark.mark-index (Mark.Skip 0)) c.loop-mark-test.true refl c.loop-mark.invariant
    (c.in_ok-push_if_some.ensures ∙ ap (λ l. c.loop-mark.list ++ l) c.made_cell_of.ensures)
