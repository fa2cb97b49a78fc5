use Rattle.std.proofs.Common.{ap, cond, Some, ◌∙◌}
use Rattle.std.specs.BTreeMap.{get}
use Rattle.st_ids.specs.Order.{node_cmp, same_node}
use Rattle.st_marks.specs.declared.places.Spot.{Spot as Standing}
use Rattle.st_forest.proofs.seats.add_node.Goals as goal

pub returns : goal.returns
unfolding same_node
returns c = λ n.
    c.in_ok-set.ensures n
    ∙ ap (λ m. cond (same_node c.args.node.now.node n) (Some (record { node = m; place = Standing.Nowhere })) (get node_cmp c.args.nodes.now n)) c.in_ok-node.ensures
