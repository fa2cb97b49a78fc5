use Rattle.std.proofs.Common.{sym, ◌∙◌}
use Rattle.std.specs.BTreeSet.{contains}
use Rattle.st_ids.specs.Order.{node_cmp}
use Rattle.st_trim.proofs.WrittenMarks.{trim_named, trim_unnamed}
use Rattle.st_trim.proofs.rows.trim_stay.Goals as goal

pub returns-then-contains : goal.returns-then-contains
returns-then-contains c = trim_named (contains node_cmp c.args.named.now) c.args.cell c.args.node (sym c.contains.ensures ∙ c.if-contains.true)

pub returns-else-contains : goal.returns-else-contains
returns-else-contains c = trim_unnamed (contains node_cmp c.args.named.now) c.args.cell c.args.node (sym c.contains.ensures ∙ c.if-contains.false)
