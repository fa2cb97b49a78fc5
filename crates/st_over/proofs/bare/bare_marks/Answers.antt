use Rattle.std.proofs.Common.{get_or, refl}
use Rattle.st_marks.specs.declared.marks.Mark.{Mark}
use Rattle.st_moves.proofs.BareRows.{bare_more}
use Rattle.st_over.proofs.bare.bare_marks.Goals as goal

pub loop-mark-preserved : goal.loop-mark-preserved
loop-mark-preserved c =
    bare_more c.args.marks.now c.loop-mark.mark-index (Mark.Skip 0) (get_or c.args.marks.now c.loop-mark.mark-index (Mark.Skip 0)) c.loop-mark.list c.push.new.self c.bare_mark.result
    c.loop-mark-test.true refl c.loop-mark.invariant c.bare_mark.ensures c.in_ok-push.ensures.ok
