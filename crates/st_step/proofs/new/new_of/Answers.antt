use Rattle.std.proofs.Common.{refl, sym, ◌∙◌}
use Rattle.st_ids.specs.Order.{node_cmp}
use Rattle.st_ids.specs.declared.names.NodeId.{NodeId}
use Rattle.st_ids.proofs.Orders.{node_cmp_exact}
use Rattle.st_marks.specs.declared.changes.NewNode.{NewNode}
use Rattle.st_marks.specs.Step.{gained_node}
use Rattle.st_doc.specs.Doc.{document_of}
use Rattle.st_embed.proofs.Listing.{listing}
use Rattle.st_step.proofs.Listed.{gained_named, gained_none}
use Rattle.st_step.proofs.new.new_of.Goals as goal

pub returns : goal.returns
returns c =
    let D = document_of c.args.doc.now in
    let E = document_of c.args.later.now in
    let f = λ (n : NodeId). gained_node n (D.nodes n) (E.nodes n) in
    listing node_cmp node_cmp_exact (λ (m : NewNode). m.node) f (λ n m e. gained_named n (D.nodes n) (E.nodes n) m e)
    c.in_ok-nodes.nodes.keys c.in_ok-list.list f c.in_ok-list.ensures.ordered c.in_ok-list.ensures.new
    (λ q there. refl) (λ q e. gained_none q (D.nodes q) (E.nodes q) (sym (c.in_ok-nodes.ensures q) ∙ e))
