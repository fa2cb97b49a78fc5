use Rattle.st_lean.proofs.SchemasLater.{last-none, last-some}
use Rattle.st_lean.proofs.base.last_after.Goals as goal

pub returns-in-None : goal.returns-in-None
returns-in-None c = last-none c.args.part.now.add c.args.part.now.on c.as_slice.result.now c.as_slice.ensures c.in-None.ensures.value

pub returns-in-Some : goal.returns-in-Some
returns-in-Some c = last-some c.args.part.now.add c.args.part.now.on c.as_slice.result.now c.in-Some.entry.now c.as_slice.ensures c.in-Some.ensures.value
