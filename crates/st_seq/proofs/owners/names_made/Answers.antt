use Rattle.st_marks.specs.declared.marks.Mark.{Mark}
use Rattle.st_seq.proofs.OwnersEarly.{made_on}
use Rattle.st_seq.proofs.owners.names_made.Goals as goal

pub loop-mark-preserved : goal.loop-mark-preserved
loop-mark-preserved c = made_on c.args.marks.now c.loop-mark.mark-index (Mark.Skip 0) c.loop-mark.out c.push_name.new.out _ c.loop-mark-test.true c.loop-mark.invariant c.name_made.ensures c.in_ok-push_name.ensures
