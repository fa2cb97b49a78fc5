use Rattle.std.proofs.Common.{cond, None, ap, sym, ◌∙◌, ◌&&◌, unwrap_or}
use Rattle.std.specs.BTreeMap.{get}
use Rattle.std.specs.Option.{option_or}
use Rattle.st_ids.specs.Order.{node_cmp}
use Rattle.st_marks.specs.declared.places.Spot.{Spot}
use Rattle.st_marks.specs.Document.{Document}
use Rattle.st_marks.specs.Intent.{is_new, put_of, put_in}
use Rattle.st_marks.specs.CarryOut.{void_data, with_names, place_after, is_put_in_new, only_new}
use Rattle.st_doc.specs.inside.Ahead.{inside_new}
use Rattle.st_doc.specs.Doc.{document_of}
use Rattle.st_doc.proofs.Carrying.{placed_void, new_empty, void_is_of_data}
use Rattle.st_doc.proofs.OneDocument.{same_document}
use Rattle.st_doc.proofs.doc.Doc.carry_void.Goals as goal

pub fill_all_new-requires : goal.fill_all_new-requires
fill_all_new-requires c = λ f new.
    ap (λ (E : Document). E.held f) c.in_ok-add_names.ensures
    ∙ new_empty (document_of c.args.self.now) c.args.intent.now c.requires.sound c.requires.fits f new

pub returns : goal.returns
returns c =
    let D = document_of c.args.self.now in
    let N = c.args.intent.now in
    let named = c.in_ok-add_names.ensures in
    let place = c.add_names.new.self.place in
    same_document _ (void_data D N)
    (λ n. ap (λ (E : Document). E.nodes n) named)
    (λ n. ap (λ (E : Document). E.rows n) named)
    (λ k. ap (λ (E : Document). E.row_of k) named)
    (λ n. ap (λ o. unwrap_or o Spot.Nowhere) (c.in_ok-put_inside.ensures n)
    ∙ ap (λ t. unwrap_or (option_or (cond (is_new N n) (inside_new N t) None) (get node_cmp place n)) Spot.Nowhere) (c.requires.targets n)
    ∙ placed_void D N n (get node_cmp place n)
    ∙ ap (λ s. cond (is_new N n && is_put_in_new D N n) (place_after (with_names D N).row_of N (put_of N n) s) s) (ap (λ (E : Document). E.place n) named))
    (λ f. c.in_ok-fill_all_new.ensures f ∙ ap (λ (E : Document). cond (is_new N f.node) (only_new N (put_in N f)) (E.held f)) named)
    (ap (λ (E : Document). E.schemas) named)
    ∙ void_is_of_data D (void_data D N) N.schema (sym c.if-is_some.ensures)
