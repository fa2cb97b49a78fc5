use Rattle.std.proofs.Common.{◌∙◌}
use Rattle.std.specs.BTreeMap.{get}
use Rattle.st_ids.specs.Order.{node_cmp, same_node}
use Rattle.st_doc.specs.inside.Growing.{at_anchor}
use Rattle.st_doc.proofs.Growing.{group_put}
use Rattle.st_doc.proofs.rows.put_group.Goals as goal

pub returns : goal.returns
unfolding same_node
returns c = λ n.
    let g = c.args.group.now in
    group_put g n (λ m. get node_cmp c.args.rows.now m) (get node_cmp c.take_row-row.new.rows n) (get node_cmp c.set.new.map n) c.from_vec.result (c.in_ok-set.ensures n) (c.take_row-row.ensures.rest n)
    (c.from_vec.ensures ∙ c.in_ok-put_behind.ensures ∙ (λ j. at_anchor g.after (c.as_slice.ensures j) (c.take_row-row.ensures.row j)))
