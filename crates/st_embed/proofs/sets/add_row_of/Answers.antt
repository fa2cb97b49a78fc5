use Rattle.std.proofs.Common.{sym, ap, ◌∙◌, ◌||◌}
use Rattle.std.specs.BTreeSet.{contains}
use Rattle.st_ids.specs.Order.{node_cmp, same_node}
use Rattle.st_embed.specs.inside.Standing.{is_row_of}
use Rattle.st_embed.proofs.Keeping.{or_last}
use Rattle.st_embed.proofs.sets.add_row_of.Goals as goal

pub returns-in-Some-Row : goal.returns-in-Some-Row
unfolding same_node
returns-in-Some-Row c = λ n.
    c.in_ok-add.ensures n ∙ or_last (contains node_cmp c.args.set.now n) (same_node c.in-Some-Row.row n)
    ∙ ap (λ s. contains node_cmp c.args.set.now n || is_row_of n s) (sym c.in-Some-Row.field-0-is ∙ c.in-Some-Row.ensures)
