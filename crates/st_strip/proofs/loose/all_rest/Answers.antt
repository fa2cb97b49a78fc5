use Rattle.std.proofs.Common.{◌++◌, ◌∙◌, ap, true}
use Rattle.std.specs.BTreeMap.{get}
use Rattle.std.specs.BTreeSet.{contains}
use Rattle.std.specs.List.{filter_map}
use Rattle.std.specs.Option.{option_to_list}
use Rattle.st_ids.specs.Order.{node_cmp}
use Rattle.st_ids.specs.declared.names.NodeId.{NodeId}
use Rattle.st_moves.proofs.NamesLeft.{listed_all, listed_left}
use Rattle.st_strip.specs.Rest.{rest_loose}
use Rattle.st_strip.specs.inside.Told.{nowhere_told}
use Rattle.st_strip.proofs.loose.all_rest.Goals as goal

pub loop-node-preserved : goal.loop-node-preserved
loop-node-preserved c =
    let s = c.args.first.now in
    let w = c.args.whole.now in
    let f = λ (n : NodeId). rest_loose true (nowhere_told (get node_cmp s.spots) (contains node_cmp w.stood) n) (nowhere_told (get node_cmp w.spots) (contains node_cmp s.stood) n) n in
    listed_left f c.loop-node.list c.push_if_some.new.list (filter_map f c.args.nodes.now.keys) c.loop-node.node-iterator c.next.new.self c.in-Some.node.now c.in-Some.ensures.steps
    (c.in_ok-push_if_some.ensures ∙ ap (λ o. c.loop-node.list ++ option_to_list o) c.rest_of.ensures) c.loop-node.invariant

pub returns-clause-loose : goal.returns-clause-loose
returns-clause-loose c =
    let s = c.args.first.now in
    let w = c.args.whole.now in
    let f = λ (n : NodeId). rest_loose true (nowhere_told (get node_cmp s.spots) (contains node_cmp w.stood) n) (nowhere_told (get node_cmp w.spots) (contains node_cmp s.stood) n) n in
    listed_all f c.loop-node.list (filter_map f c.args.nodes.now.keys) c.loop-node.node-iterator c.in-None.ensures.steps.0 c.loop-node.invariant
