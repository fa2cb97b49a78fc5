use Rattle.std.proofs.Common.{◌++◌, ◌∙◌, ap}
use Rattle.std.specs.List.{filter_map}
use Rattle.st_doc.specs.Doc.{document_of}
use Rattle.st_step.specs.inside.Sources.{changed_node, changed_owner}
use Rattle.st_step.proofs.Changed.{are_changed}
use Rattle.st_step.proofs.sources.changed_nodes.Goals as goal

pub returns : goal.returns
returns c =
    let D = document_of c.args.doc.now in
    let E = document_of c.args.later.now in
    are_changed D E c.requires.later c.in_ok-nodes.nodes c.in_ok-before.before c.in_ok-after.after c.in_ok-nodes.ensures.all c.in_ok-before.ensures c.in_ok-after.ensures c.push_owners-2.new.names
    (c.in_ok-push_owners-2.ensures ∙ ap (λ l. l ++ filter_map (changed_owner D E) c.as_slice-3.result.now) (c.in_ok-push_owners.ensures
    ∙ ap (λ l. l ++ filter_map (changed_owner D E) c.as_slice-2.result.now) (c.in_ok-push_changed.ensures ∙ ap (λ l. l ++ filter_map (changed_node D E) c.as_slice.result.now) c.new-names.ensures))
    ∙ (λ i. (filter_map (changed_node D E) (c.as_slice.ensures i) ++ filter_map (changed_owner D E) (c.as_slice-2.ensures i)) ++ filter_map (changed_owner D E) (c.as_slice-3.ensures i)))
