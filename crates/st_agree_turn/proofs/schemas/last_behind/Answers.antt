use Rattle.st_agree_turn.proofs.SchemasMeet.{last-some}
use Rattle.st_agree_turn.proofs.schemas.last_behind.Goals as goal

pub returns-in-Some : goal.returns-in-Some
returns-in-Some c = last-some c.args.on c.args.entries.now c.in-Some.entry.now c.in-Some.ensures.value
