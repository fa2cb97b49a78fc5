use Rattle.st_over_step.proofs.Entries.{goes_on_if}
use Rattle.st_over_step.proofs.schemas.goes_on.Goals as goal

pub returns-then-is_last : goal.returns-then-is_last
returns-then-is_last c = goes_on_if c.args.front.now c.as_slice.result.now c.args.part.now c.is_last.result c.each_of.result c.is_last.ensures c.if-is_last.true c.as_slice.ensures c.each_of.ensures
