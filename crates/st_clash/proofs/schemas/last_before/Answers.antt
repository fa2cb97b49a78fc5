use Rattle.st_clash.proofs.InEffect.{last-of-none, last-of-some}
use Rattle.st_clash.proofs.schemas.last_before.Goals as goal

pub returns-in-None : goal.returns-in-None
returns-in-None c = last-of-none c.args.part.now c.as_slice.result.now c.as_slice.ensures c.in-None.ensures.value

pub returns-in-Some : goal.returns-in-Some
returns-in-Some c = last-of-some c.args.part.now c.as_slice.result.now c.in-Some.entry.now c.as_slice.ensures c.in-Some.ensures.value
