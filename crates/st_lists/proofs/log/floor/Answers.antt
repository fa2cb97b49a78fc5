use Rattle.std.proofs.Common.{◌∙◌}
use Rattle.st_lists.proofs.Minima.{floor_kept}
use Rattle.st_lists.proofs.log.floor.Goals as goal

pub returns : goal.returns
returns c = λ log w within. c.saturating_sub.ensures ∙ floor_kept c.args.history log c.args.minima.now c.args.received c.minimum_after.result w within c.minimum_after.ensures.first c.minimum_after.ensures.later
