use Rattle.std.proofs.Common.{◌&&◌, not, cond, ap, refl, Some, None}
use Rattle.std.specs.BTreeSet.{contains}
use Rattle.st_ids.specs.Order.{node_cmp, same_node}
use Rattle.st_ids.specs.Root.{root}
use Rattle.st_ids.proofs.Orders.{node_cmp_exact}
use Rattle.st_marks.specs.declared.marks.How.TheVariants.{Leave, Stay}
use Rattle.st_marks.specs.declared.marks.Loose.{Loose}
use Rattle.st_marks.specs.Embedding.{is_nowhere}
use Rattle.st_marks.specs.Step.{step_loose}
use Rattle.st_doc.specs.Doc.{document_of}
use Rattle.st_embed.proofs.Listing.{listing}
use Rattle.st_step.proofs.Listed.{loose_named}
use Rattle.st_step.proofs.registers.loose_of.Goals as goal

pub returns : goal.returns
returns c =
    let D = document_of c.args.doc.now in
    let E = document_of c.args.later.now in
    let m = contains node_cmp c.args.mentioned.now in
    listing node_cmp node_cmp_exact (λ (l : Loose). l.node) (step_loose m D E) (loose_named m D E)
    c.args.mentioned.now.keys c.in_ok-list.list (step_loose m D E) c.in_ok-list.ensures.ordered c.in_ok-list.ensures.loose
    (λ q there. refl)
    (λ q e. ap (λ b. cond (b && is_nowhere (D.place q) && not (same_node q root)) (Some (record { node = q; how = cond (is_nowhere (E.place q)) Stay Leave })) None) e)
