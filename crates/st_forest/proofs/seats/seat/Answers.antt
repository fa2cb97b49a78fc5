use Rattle.std.proofs.Common.{IsSome, ap, refl, subst, sym, ◌∙◌}
use Rattle.std.specs.BTreeMap.{get}
use Rattle.st_ids.specs.Order.{node_cmp, same_node}
use Rattle.st_ids.proofs.Orders.{same_node-true}
use Rattle.st_forest.proofs.Written.{seat_none, seat_one}
use Rattle.st_forest.proofs.seats.seat.Goals as goal

pub returns-in-Some : goal.returns-in-Some
unfolding same_node
returns-in-Some c = λ n.
    let old = c.args.nodes.now in
    let node = c.args.node in
    let s = c.in-Some.seated.now in
    let there = c.in-Some.ensures.value in
    let holds = c.get_mut.follows.holds (record { node = s.node; place = c.args.place }) in
    seat_one node n c.args.place s (get node_cmp (c.get_mut.follows.lender (record { node = s.node; place = c.args.place })) n) (get node_cmp old n) (get node_cmp old node)
    ((holds.3 (subst IsSome there refl)).0 n) there (λ q. ap (get node_cmp old) (sym (same_node-true node n q)))

pub returns-in_default : goal.returns-in_default
unfolding same_node
returns-in_default c = λ n.
    let old = c.args.nodes.now in
    let node = c.args.node in
    ap (λ t. get node_cmp t n) c.get_mut.follows.holds-at-none
    ∙ seat_none node n c.args.place (get node_cmp old n) (get node_cmp old node) c.in_default.ensures.value (λ q. ap (get node_cmp old) (sym (same_node-true node n q)))
