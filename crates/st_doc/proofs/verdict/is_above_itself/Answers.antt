use Rattle.std.proofs.Common.{sym, ◌∙◌}
use Rattle.st_doc.proofs.verdict.is_above_itself.Goals as goal

pub returns : goal.returns
returns c = (λ e. (c.in_ok-above.ensures c.args.node).0 (sym c.contains.ensures ∙ e), λ r. c.contains.ensures ∙ (c.in_ok-above.ensures c.args.node).1 r)
