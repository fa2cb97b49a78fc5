use Rattle.std.specs.BTreeSet.{contains}
use Rattle.std.specs.List.{list_any}
use Rattle.std.proofs.Common.{◌||◌}
use Rattle.st_ids.specs.declared.names.NodeId.{NodeId}
use Rattle.st_ids.specs.Order.{field_cmp}
use Rattle.st_doc.specs.Doc.{document_of}
use Rattle.st_embed.specs.inside.Standing.{is_register_of}
use Rattle.st_embed.proofs.Keeping.{set_all, set_left}
use Rattle.st_embed.proofs.sets.add_registers_of.Goals as goal

pub loop-node-preserved : goal.loop-node-preserved
loop-node-preserved c = λ f.
    let p = λ (m : NodeId). is_register_of f ((document_of c.args.doc.now).place m) in
    set_left p (contains field_cmp c.loop-node.set f) (contains field_cmp c.add_register_of.new.set f) (contains field_cmp c.args.set.now f || list_any p c.args.nodes.now.keys)
    c.loop-node.node-iterator c.next.new.self c.in-Some.node.now c.in-Some.ensures.steps (c.in_ok-add_register_of.ensures f) (c.loop-node.invariant f)

pub returns : goal.returns
returns c = λ f.
    let p = λ (m : NodeId). is_register_of f ((document_of c.args.doc.now).place m) in
    set_all p (contains field_cmp c.loop-node.set f) (contains field_cmp c.args.set.now f || list_any p c.args.nodes.now.keys) c.loop-node.node-iterator c.in-None.ensures.steps.0 (c.loop-node.invariant f)
