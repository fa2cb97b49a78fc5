use Rattle.std.proofs.Common.{◌++◌, ◌∙◌, ap}
use Rattle.std.specs.BTreeMap.{get}
use Rattle.std.specs.BTreeSet.{contains}
use Rattle.std.specs.List.{filter_map}
use Rattle.std.specs.Option.{option_to_list}
use Rattle.st_ids.specs.Order.{node_cmp}
use Rattle.st_ids.specs.declared.names.NodeId.{NodeId}
use Rattle.st_moves.proofs.NamesLeft.{listed_all, listed_left}
use Rattle.st_steps.specs.WayBack.{loose_back}
use Rattle.st_steps.proofs.loose_back.all_back.Goals as goal

pub loop-node-preserved : goal.loop-node-preserved
loop-node-preserved c =
    let t = c.args.tables.now in
    let f = λ (n : NodeId). loose_back (contains node_cmp t.stood n) (get node_cmp t.spots n) n in
    let says = c.loose_back.ensures ∙ (λ i. loose_back (c.contains-stood.ensures i) (c.get.ensures.value i) c.in-Some.node.now) in
    listed_left f c.loop-node.list c.push_if_some.new.list (filter_map f c.args.nodes.now.keys) c.loop-node.node-iterator c.next.new.self c.in-Some.node.now c.in-Some.ensures.steps
    (c.in_ok-push_if_some.ensures ∙ ap (λ o. c.loop-node.list ++ option_to_list o) says) c.loop-node.invariant

pub returns-clause-loose : goal.returns-clause-loose
returns-clause-loose c =
    let t = c.args.tables.now in
    let f = λ (n : NodeId). loose_back (contains node_cmp t.stood n) (get node_cmp t.spots n) n in
    listed_all f c.loop-node.list (filter_map f c.args.nodes.now.keys) c.loop-node.node-iterator c.in-None.ensures.steps.0 c.loop-node.invariant
