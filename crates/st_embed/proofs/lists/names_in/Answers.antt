use Rattle.std.proofs.Common.{Some}
use Rattle.std.specs.List.{filter_map}
use Rattle.st_ids.specs.declared.names.NodeId.{NodeId}
use Rattle.st_embed.proofs.Keeping.{listed_all, listed_left}
use Rattle.st_embed.proofs.lists.names_in.Goals as goal

pub loop-node-preserved : goal.loop-node-preserved
loop-node-preserved c =
    let f = (λ (n : NodeId). Some n) in
    listed_left f c.loop-node.list c.push_if_some.new.list (filter_map f c.args.nodes.now.keys) c.loop-node.node-iterator c.next.new.self c.in-Some.node.now c.in-Some.ensures.steps
    c.in_ok-push_if_some.ensures c.loop-node.invariant

pub returns-clause-names : goal.returns-clause-names
returns-clause-names c =
    let f = (λ (n : NodeId). Some n) in
    listed_all f c.loop-node.list (filter_map f c.args.nodes.now.keys) c.loop-node.node-iterator c.in-None.ensures.steps.0 c.loop-node.invariant
