use Rattle.st_listed.proofs.SlotsRead.{one_read}
use Rattle.st_listed.proofs.rows.slot_marks.Goals as goal

pub loop-place-preserved : goal.loop-place-preserved
loop-place-preserved c =
    one_read c.args.row.now c.loop-place.place c.in-Ok.slot c.slot_mark.result c.loop-place.marks c.push.new.self c.in-Ok.ensures.ok c.slot_mark.ensures c.in_ok-push.ensures.ok c.loop-place.invariant
