use Rattle.std.specs.BTreeSet.{contains}
use Rattle.std.specs.List.{list_any}
use Rattle.std.proofs.Common.{◌||◌}
use Rattle.st_ids.specs.declared.names.NodeId.{NodeId}
use Rattle.st_ids.specs.Order.{node_cmp}
use Rattle.st_doc.specs.Doc.{document_of}
use Rattle.st_embed.specs.inside.Standing.{is_row_of}
use Rattle.st_embed.proofs.Keeping.{set_all, set_left}
use Rattle.st_embed.proofs.sets.add_rows_of.Goals as goal

pub loop-node-preserved : goal.loop-node-preserved
loop-node-preserved c = λ n.
    let p = λ (m : NodeId). is_row_of n ((document_of c.args.doc.now).place m) in
    set_left p (contains node_cmp c.loop-node.set n) (contains node_cmp c.add_row_of.new.set n) (contains node_cmp c.args.set.now n || list_any p c.args.nodes.now.keys)
    c.loop-node.node-iterator c.next.new.self c.in-Some.node.now c.in-Some.ensures.steps (c.in_ok-add_row_of.ensures n) (c.loop-node.invariant n)

pub returns : goal.returns
returns c = λ n.
    let p = λ (m : NodeId). is_row_of n ((document_of c.args.doc.now).place m) in
    set_all p (contains node_cmp c.loop-node.set n) (contains node_cmp c.args.set.now n || list_any p c.args.nodes.now.keys) c.loop-node.node-iterator c.in-None.ensures.steps.0 (c.loop-node.invariant n)
