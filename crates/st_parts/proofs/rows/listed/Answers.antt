use Rattle.std.proofs.Common.{ap, sym, ◌∙◌}
use Rattle.std.specs.List.{list_any}
use Rattle.st_mention_laws.specs.Tells.{mark_tells}
use Rattle.st_parts.proofs.CutChanges.{listed_none, listed_some}
use Rattle.st_parts.proofs.rows.listed.Goals as goal

pub returns-then-any_tells : goal.returns-then-any_tells
returns-then-any_tells c = λ cells e. listed_some c.args.node c.args.marks cells (ap (list_any mark_tells) (sym c.as_slice.ensures) ∙ sym c.any_tells.ensures ∙ c.if-any_tells.true) e

pub returns-else-any_tells : goal.returns-else-any_tells
returns-else-any_tells c = λ cells e. listed_none c.args.node c.args.marks cells (ap (list_any mark_tells) (sym c.as_slice.ensures) ∙ sym c.any_tells.ensures ∙ c.if-any_tells.false) e
