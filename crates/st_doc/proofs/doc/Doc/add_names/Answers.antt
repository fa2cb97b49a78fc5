use Rattle.std.proofs.Common.{refl, ap, ◌∙◌}
use Rattle.std.specs.BTreeMap.{get}
use Rattle.std.specs.List.{find}
use Rattle.st_ids.specs.Order.{node_cmp, same_node}
use Rattle.st_marks.specs.declared.changes.NewNode.{NewNode}
use Rattle.st_marks.specs.CarryOut.{with_names}
use Rattle.st_doc.specs.Doc.{document_of}
use Rattle.st_doc.specs.Nodes.{type_of}
use Rattle.st_doc.proofs.Look.{option_map-or}
use Rattle.st_doc.proofs.OneDocument.{same_document}
use Rattle.st_doc.proofs.doc.Doc.add_names.Goals as goal

pub returns : goal.returns
returns c =
    let N = c.args.intent.now in
    same_document _ (with_names (document_of c.args.self.now) N)
    (λ n. ap type_of (c.in_ok-add_nodes.ensures n) ∙ option_map-or (λ (m : NewNode). record { ty = m.ty; leaf = m.leaf }) (get node_cmp c.args.self.now.nodes n) (find (λ (m : NewNode). same_node m.node n) N.new))
    c.in_ok-grow_rows.ensures
    c.in_ok-add_rows.ensures
    (λ n. refl)
    (λ f. refl)
    refl
