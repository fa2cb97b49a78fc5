use Rattle.std.proofs.Common.{ap, get_or, refl, ◌∙◌, ◌++◌}
use Rattle.st_marks.specs.declared.marks.Mark.{Mark}
use Rattle.st_turn_names.proofs.NamedNodes.{marks_more}
use Rattle.st_turn_names.proofs.names.add_marks.Goals as goal

pub loop-mark-preserved : goal.loop-mark-preserved
loop-mark-preserved c =
    marks_more c.args.names.now c.loop-mark.names c.push_if_some.new.list c.args.marks.now c.loop-mark.mark-index
    (Mark.Skip 0) (get_or c.args.marks.now c.loop-mark.mark-index (Mark.Skip 0)) c.loop-mark-test.true refl c.loop-mark.invariant
    (c.in_ok-push_if_some.ensures ∙ ap (λ l. c.loop-mark.names ++ l) c.node_of.ensures)
