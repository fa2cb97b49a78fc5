use Rattle.std.proofs.Common.{◌∙◌, cond, None, Some, ap, option_map}
use Rattle.std.specs.BTreeMap.{get}
use Rattle.std.specs.Option.{option_or}
use Rattle.st_ids.specs.Order.{node_cmp, same_node}
use Rattle.st_ids.proofs.Orders.{same_node-true}
use Rattle.st_forest.specs.declared.forest.Seated.{Seated as Entry}
use Rattle.st_forest_start.proofs.Preordered.{added, named_at}
use Rattle.st_forest_start.proofs.opened.add_node.Goals as goal

pub returns-clause-node : goal.returns-clause-node
unfolding same_node
returns-clause-node c = λ n.
    let seated : Entry = record { node = c.in_ok-node.node; place = c.in_ok-place.place } in
    let old = get node_cmp c.args.nodes.now n in
    ap (option_map (λ (s : Entry). s.node)) (c.in_ok-add.ensures n)
    ∙ added (λ (s : Entry). s.node) seated (same_node c.args.flat.now.node n) old
    ∙ ap (option_or (option_map (λ (s : Entry). s.node) old)) (named_at n c.args.flat.now c.in_ok-node.node c.in_ok-node.ensures (same_node-true c.args.flat.now.node n))

pub returns-clause-place : goal.returns-clause-place
unfolding same_node
returns-clause-place c = λ n.
    let seated : Entry = record { node = c.in_ok-node.node; place = c.in_ok-place.place } in
    let old = get node_cmp c.args.nodes.now n in
    ap (option_map (λ (s : Entry). s.place)) (c.in_ok-add.ensures n)
    ∙ added (λ (s : Entry). s.place) seated (same_node c.args.flat.now.node n) old
    ∙ ap (λ s. option_or (option_map (λ (s : Entry). s.place) old) (cond (same_node c.args.flat.now.node n) (Some s) None)) c.in_ok-place.ensures
