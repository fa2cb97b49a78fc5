use Rattle.std.proofs.Common.{sym, ◌∙◌}
use Rattle.st_intent.proofs.Scans.{is_new-listed}
use Rattle.st_intent.proofs.finds.is_new.Goals as goal

pub returns : goal.returns
returns c = c.is_listed.ensures ∙ sym (is_new-listed c.args.intent.now c.args.node)
