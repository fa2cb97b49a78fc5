use Rattle.std.proofs.Common.{◌++◌, ◌∙◌, ap}
use Rattle.std.specs.Option.{option_to_list}
use Rattle.std.specs.List.{filter_map}
use Rattle.std.specs.BTreeSet.{contains}
use Rattle.st_ids.specs.Order.{node_cmp}
use Rattle.st_marks.specs.Step.{step_loose}
use Rattle.st_doc.specs.Doc.{document_of}
use Rattle.st_embed.proofs.Keeping.{listed_all, listed_left}
use Rattle.st_step.proofs.registers.loose_nodes.Goals as goal

pub loop-node-preserved : goal.loop-node-preserved
loop-node-preserved c =
    let f = step_loose (contains node_cmp c.args.mentioned.now) (document_of c.args.doc.now) (document_of c.args.later.now) in
    listed_left f c.loop-node.list c.push_if_some.new.list (filter_map f c.args.mentioned.now.keys) c.loop-node.node-iterator c.next.new.self c.in-Some.node.now c.in-Some.ensures.steps
    (c.in_ok-push_if_some.ensures ∙ ap (λ o. c.loop-node.list ++ option_to_list o) c.listed_loose.ensures) c.loop-node.invariant

pub returns-clause-loose : goal.returns-clause-loose
returns-clause-loose c =
    let f = step_loose (contains node_cmp c.args.mentioned.now) (document_of c.args.doc.now) (document_of c.args.later.now) in
    listed_all f c.loop-node.list (filter_map f c.args.mentioned.now.keys) c.loop-node.node-iterator c.in-None.ensures.steps.0 c.loop-node.invariant
