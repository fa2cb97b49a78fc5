use Rattle.std.proofs.Common.{ap, get_or, refl, ◌∙◌, ◌++◌}
use Rattle.st_marks.specs.declared.marks.Mark.{Mark}
use Rattle.st_agree.specs.inside.Places.{placed_by}
use Rattle.st_clash.proofs.LeastFields.{flat_more}
use Rattle.st_agree.proofs.places.add_marks.Goals as goal

pub loop-mark-preserved : goal.loop-mark-preserved
loop-mark-preserved c =
    flat_more (placed_by c.args.row) c.args.list.now c.loop-mark.list c.push_if_some.new.list c.args.marks.now c.loop-mark.mark-index
    (Mark.Skip 0) (get_or c.args.marks.now c.loop-mark.mark-index (Mark.Skip 0)) c.loop-mark-test.true refl c.loop-mark.invariant
    (c.in_ok-push_if_some.ensures ∙ ap (λ l. c.loop-mark.list ++ l) c.placed_in.ensures)
