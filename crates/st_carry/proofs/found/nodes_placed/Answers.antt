use Rattle.std.proofs.Common.{◌||◌, ap, ◌∙◌}
use Rattle.std.specs.BTreeMap.{is_at}
use Rattle.std.specs.List.{list_any}
use Rattle.st_ids.specs.Order.{node_cmp}
use Rattle.st_marks.specs.Embedding.{is_among}
use Rattle.st_carry.specs.inside.Standing.{placed_at}
use Rattle.st_carry.proofs.found.nodes_placed.Goals as goal

pub returns : goal.returns
returns c = λ n.
    c.in_ok-add_placed.ensures n
    ∙ ap (λ b. b || is_among (placed_at c.args.after c.args.rows.now c.args.regs.now) n) (ap (list_any (is_at (node_cmp n))) c.new-set.ensures.empty)
