use Rattle.std.proofs.Common.{◌↔◌, IsSome, List, subst, sym}
use Rattle.st_ids.specs.Listing.{Has}
use Rattle.st_ids.specs.declared.names.NodeId.{NodeId}
use Rattle.st_intent.proofs.Tells.{Tells}
use Rattle.st_marks.specs.Extends.{IsExtendedBy}
use Rattle.st_doc.specs.Doc.{document_of}
use Rattle.st_later.proofs.Extending.{extends_told}
use Rattle.st_later.proofs.extends.is_extended_by.Goals as goal

pub returns : goal.returns
returns c =
    let D = document_of c.args.before.now in
    let E = document_of c.args.after.now in
    subst (λ b. Tells b (IsExtendedBy D E)) (sym c.keeps_all.ensures)
    (extends_told D E c.requires.before c.requires.after c.as_slice.result.now
    (subst (λ (ns : List NodeId). (n : NodeId) → Has ns n ↔ IsSome (D.nodes n)) (sym c.as_slice.ensures) c.in_ok-nodes.ensures.all))
