use Rattle.st_over_step.proofs.Entries.{last_is}
use Rattle.st_over_step.proofs.Names.{one-rev}
use Rattle.st_over_step.proofs.schemas.is_last.Goals as goal

pub returns-in-Some : goal.returns-in-Some
returns-in-Some c = last_is c.args.entries.now c.in-Some.entry.now c.args.rev c.is_same_rev.result c.in-Some.ensures.value (one-rev c.in-Some.entry.now.rev c.args.rev c.is_same_rev.result c.is_same_rev.ensures)
