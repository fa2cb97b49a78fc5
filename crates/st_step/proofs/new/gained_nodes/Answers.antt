use Rattle.std.proofs.Common.{◌++◌, ◌∙◌, ap}
use Rattle.std.specs.Option.{option_to_list}
use Rattle.std.specs.List.{filter_map}
use Rattle.st_ids.specs.declared.names.NodeId.{NodeId}
use Rattle.st_marks.specs.Step.{gained_node}
use Rattle.st_doc.specs.Doc.{document_of}
use Rattle.st_embed.proofs.Keeping.{listed_all, listed_left}
use Rattle.st_step.proofs.new.gained_nodes.Goals as goal

pub loop-node-preserved : goal.loop-node-preserved
loop-node-preserved c =
    let f = λ (n : NodeId). gained_node n ((document_of c.args.doc.now).nodes n) ((document_of c.args.later.now).nodes n) in
    listed_left f c.loop-node.list c.push_if_some.new.list (filter_map f c.args.nodes.now.keys) c.loop-node.node-iterator c.next.new.self c.in-Some.node.now c.in-Some.ensures.steps
    (c.in_ok-push_if_some.ensures ∙ ap (λ o. c.loop-node.list ++ option_to_list o) c.in_ok-new.ensures) c.loop-node.invariant

pub returns-clause-new : goal.returns-clause-new
returns-clause-new c =
    let f = λ (n : NodeId). gained_node n ((document_of c.args.doc.now).nodes n) ((document_of c.args.later.now).nodes n) in
    listed_all f c.loop-node.list (filter_map f c.args.nodes.now.keys) c.loop-node.node-iterator c.in-None.ensures.steps.0 c.loop-node.invariant
