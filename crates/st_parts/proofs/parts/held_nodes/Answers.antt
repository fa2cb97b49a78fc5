use Rattle.std.proofs.Common.{◌||◌, ap, ◌∙◌}
use Rattle.std.specs.BTreeMap.{is_at}
use Rattle.std.specs.List.{flat_map, list_any}
use Rattle.st_ids.specs.Order.{node_cmp}
use Rattle.st_marks.specs.declared.marks.RegMark.{RegMark}
use Rattle.st_marks.specs.Embedding.{is_among}
use Rattle.st_marks.specs.Listings.{one_or_none}
use Rattle.st_parts.proofs.parts.held_nodes.Goals as goal

pub returns : goal.returns
returns c = λ n.
    c.in_ok-add_held.ensures n
    ∙ ap (λ b. b || is_among (flat_map (λ (r : RegMark). one_or_none r.held) c.args.regs.now) n) (ap (list_any (is_at (node_cmp n))) c.new-set.ensures.empty)
