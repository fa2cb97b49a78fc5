use Rattle.st_ids.specs.Order.{same_rev}
use Rattle.st_makers.proofs.Entering.{entered}
use Rattle.st_makers.proofs.makers.Makers.enter.Goals as goal

pub returns : goal.returns
unfolding same_rev
returns c = λ O Ns knows fresh late. entered O Ns c.args.intent.now c.args.self.now (record { unders = c.insert.new.self; homes = c.note_puts.new.homes }) knows fresh late c.in_ok-insert.ensures.updates.0 c.in_ok-note_puts.ensures
