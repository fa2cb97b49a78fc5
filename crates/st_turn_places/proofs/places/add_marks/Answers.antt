use Rattle.std.proofs.Common.{ap, get_or, refl, ◌∙◌, ◌++◌}
use Rattle.st_marks.specs.declared.marks.Mark.{Mark}
use Rattle.st_turn_places.specs.inside.Sides.{placed_on}
use Rattle.st_clash.proofs.LeastFields.{flat_more}
use Rattle.st_turn_places.proofs.places.add_marks.Goals as goal

pub loop-mark-preserved : goal.loop-mark-preserved
loop-mark-preserved c =
    flat_more (placed_on c.args.after c.args.row) c.args.list.now c.loop-mark.list c.push_if_some.new.list c.args.marks.now c.loop-mark.mark-index
    (Mark.Skip 0) (get_or c.args.marks.now c.loop-mark.mark-index (Mark.Skip 0)) c.loop-mark-test.true refl c.loop-mark.invariant
    (c.in_ok-push_if_some.ensures ∙ ap (λ l. c.loop-mark.list ++ l) c.placed_at.ensures)
