use Rattle.std.proofs.Common.{◌||◌, map, ap, ◌∙◌}
use Rattle.std.specs.BTreeMap.{is_at}
use Rattle.std.specs.List.{list_any}
use Rattle.st_ids.specs.Order.{node_cmp}
use Rattle.st_marks.specs.declared.marks.RegStep.{RegStep}
use Rattle.st_marks.specs.Embedding.{is_among}
use Rattle.st_marks.specs.Listings.{placed_before}
use Rattle.st_listings.proofs.found.nodes_found.Goals as goal

pub returns : goal.returns
returns c = λ n.
    c.in_ok-add_found.ensures n
    ∙ ap (λ b. b || is_among (placed_before c.args.step.now.rows (map (λ (r : RegStep). r.before) c.args.step.now.regs)) n) (ap (list_any (is_at (node_cmp n))) c.new-set.ensures.empty)
