use Rattle.std.proofs.Common.{◌++◌, ◌∙◌, ap}
use Rattle.std.specs.BTreeSet.{contains}
use Rattle.std.specs.List.{filter_map}
use Rattle.st_marks.specs.Listings.{one_or_none}
use Rattle.st_ids.specs.Order.{node_cmp}
use Rattle.st_cross_laws.specs.Crossed.{loose_across}
use Rattle.st_moves.proofs.NamesLeft.{listed_all}
use Rattle.st_over.proofs.Walked.{one_left}
use Rattle.st_carry.proofs.loose.loose_nodes.Goals as goal

pub loop-node-preserved : goal.loop-node-preserved
loop-node-preserved c =
    let f = loose_across (contains node_cmp c.args.stood.now) (contains node_cmp c.args.stands.now) in
    one_left f c.loop-node.list c.push_if_some.new.list (filter_map f c.args.names.now.keys) c.loop-node.node-iterator c.next.new.self c.in-Some.node.now c.in-Some.ensures.steps
    (c.in_ok-push_if_some.ensures ∙ ap (λ o. c.loop-node.list ++ one_or_none o) c.loose_across.ensures) c.loop-node.invariant

pub returns-clause-loose : goal.returns-clause-loose
returns-clause-loose c =
    let f = loose_across (contains node_cmp c.args.stood.now) (contains node_cmp c.args.stands.now) in
    listed_all f c.loop-node.list (filter_map f c.args.names.now.keys) c.loop-node.node-iterator c.in-None.ensures.steps.0 c.loop-node.invariant
