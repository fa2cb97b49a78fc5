use Rattle.st_over_step.proofs.Entries.{ends_if}
use Rattle.st_over_step.proofs.schemas.end_with_cut.Goals as goal

pub returns-in-Some : goal.returns-in-Some
returns-in-Some c = ends_if c.args.entries.now c.in-Some.front.now c.as_slice.result.now c.args.part.now c.goes_on.result c.as_slice.ensures c.in-Some.ensures c.goes_on.ensures
