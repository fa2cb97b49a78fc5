use Rattle.std.proofs.Common.{is_some, ap, ◌∙◌}
use Rattle.st_ids.specs.Order.{same_node}
use Rattle.st_ids.proofs.Orders.{same_node-itself, same_node-true}
use Rattle.st_marks.specs.Embedding.{is_among}
use Rattle.st_doc.specs.Doc.{document_of}
use Rattle.st_step.proofs.Listed.{among_told}
use Rattle.st_step.proofs.new.nodes_of.Goals as goal

pub returns : goal.returns
returns c = λ n.
    c.in_ok-set.ensures n ∙ ap (λ ns. is_among ns n) c.as_slice.ensures
    ∙ among_told same_node same_node-true same_node-itself c.in_ok-nodes.nodes n (is_some ((document_of c.args.doc.now).nodes n)) (c.in_ok-nodes.ensures.all n)
