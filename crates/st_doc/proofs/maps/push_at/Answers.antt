use Rattle.std.proofs.Common.{◌≡◌, ◌∙◌, [], cond, None, ap, unwrap_or}
use Rattle.std.specs.BTreeMap.{get}
use Rattle.st_ids.specs.Order.{node_cmp, same_node}
use Rattle.st_ids.proofs.Orders.{same_node-true}
use Rattle.st_doc.proofs.Starting.{pushed}
use Rattle.st_doc.proofs.maps.push_at.Goals as goal
use Rattle.st_doc.proofs.maps.push_at.Goals.{in-None, in-Some}

pub returns : goal.returns
unfolding same_node
returns g c = λ n.
    let node = c.args.node in
    let map = c.args.map.now in
    let list : c.match-remove.list ≡ unwrap_or (get node_cmp map node) [] = elim c.match-remove.branch [
      | in-None w ↦ w.list-is ∙ w.new-list.ensures ∙ ap (λ o. unwrap_or o []) w.in-None.ensures.value
      | in-Some w ↦ w.list-is ∙ ap (λ o. unwrap_or o []) w.in-Some.ensures.value
    ] in
    ap (λ o. unwrap_or o []) (c.in_ok-set.ensures n)
    ∙ pushed node n c.args.value c.match-remove.list c.push.new.self (get node_cmp map n) (get node_cmp c.remove.new.self n) (get node_cmp map node)
    (λ s. ap (get node_cmp map) (same_node-true node n s)) list c.in_ok-push.ensures.ok (λ s. c.remove.ensures.updates.0 n ∙ ap (λ b. cond b None (get node_cmp map n)) s)
