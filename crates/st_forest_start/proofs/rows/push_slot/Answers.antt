use Rattle.std.proofs.Common.{◌≡◌, ◌∙◌, [], cond, None, ap, unwrap_or}
use Rattle.std.specs.BTreeMap.{get}
use Rattle.st_ids.specs.Order.{node_cmp, same_node}
use Rattle.st_ids.proofs.Orders.{same_node-true}
use Rattle.st_forest_start.proofs.Preordered.{pushed}
use Rattle.st_forest_start.proofs.rows.push_slot.Goals as goal
use Rattle.st_forest_start.proofs.rows.push_slot.Goals.{in-None, in-Some}

pub returns : goal.returns
unfolding same_node
returns c = λ n.
    let node = c.args.node in
    let map = c.args.rows.now in
    let row : c.match-remove.row ≡ unwrap_or (get node_cmp map node) [] = elim c.match-remove.branch [
      | in-None w ↦ w.row-is ∙ w.new-row.ensures ∙ ap (λ o. unwrap_or o []) w.in-None.ensures.value
      | in-Some w ↦ w.row-is ∙ ap (λ o. unwrap_or o []) w.in-Some.ensures.value
    ] in
    ap (λ o. unwrap_or o []) (c.in_ok-set.ensures n)
    ∙ pushed node n c.args.slot c.match-remove.row c.push.new.row (get node_cmp map n) (get node_cmp c.remove.new.self n) (get node_cmp map node)
    (λ s. ap (get node_cmp map) (same_node-true node n s)) row c.in_ok-push.ensures (λ s. c.remove.ensures.updates.0 n ∙ ap (λ b. cond b None (get node_cmp map n)) s)
