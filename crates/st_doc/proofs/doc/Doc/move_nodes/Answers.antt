use Rattle.std.proofs.Common.{refl, ap, ◌∙◌, unwrap_or}
use Rattle.std.specs.BTreeMap.{get}
use Rattle.std.specs.Option.{option_or}
use Rattle.st_ids.specs.Order.{node_cmp}
use Rattle.st_marks.specs.declared.places.Spot.{Spot}
use Rattle.st_doc.specs.inside.Ahead.{with_moves}
use Rattle.st_doc.specs.Doc.{document_of}
use Rattle.st_doc.proofs.Carrying.{placed_ahead}
use Rattle.st_doc.proofs.OneDocument.{same_document}
use Rattle.st_doc.proofs.doc.Doc.move_nodes.Goals as goal

pub returns : goal.returns
returns c =
    let D = document_of c.args.self.now in
    let N = c.args.intent.now in
    let place = c.args.self.now.place in
    same_document _ (with_moves N c.args.targets D)
    (λ n. refl)
    (λ n. refl)
    (λ k. refl)
    (λ n. ap (λ o. unwrap_or o Spot.Nowhere) (c.in_ok-put_all.ensures n)
    ∙ ap (λ o. unwrap_or (option_or o (get node_cmp place n)) Spot.Nowhere) (c.in_ok-evict_all.ensures D.place c.requires n)
    ∙ placed_ahead N (get node_cmp c.args.targets n) (get node_cmp place n))
    c.in_ok-refill.ensures
    refl
