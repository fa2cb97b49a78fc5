use Rattle.st_over_step.proofs.Entries.{split_told}
use Rattle.st_over_step.proofs.schemas.before_last.Goals as goal

pub returns : goal.returns
returns c = split_told (λ x. x.now) c.args.entries.now c.args.last.now c.strip_suffix.result c.strip_suffix.ensures.cases
