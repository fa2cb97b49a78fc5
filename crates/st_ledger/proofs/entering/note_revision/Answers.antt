use Rattle.st_ids.specs.Order.{same_rev}
use Rattle.st_ledger.proofs.entering.note_revision.Goals as goal

pub returns : goal.returns
unfolding same_rev
returns c = λ rev. c.in_ok-insert.ensures.updates.0 rev
