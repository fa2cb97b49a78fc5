use Rattle.std.proofs.Common.{◌∙◌}
use Rattle.st_mention_laws.proofs.SpreadTells.{any_spread}
use Rattle.st_over.proofs.rows.tells.Goals as goal

pub returns : goal.returns
returns c = c.any_tells.ensures ∙ any_spread c.args.marks.now
