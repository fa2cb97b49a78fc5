use Rattle.std.proofs.Common.{◌≡◌, ◌↔◌, Some, sym, subst, ap, ◌∙◌}
use Rattle.st_ids.specs.declared.names.FieldId.{FieldId}
use Rattle.st_ids.specs.declared.names.NodeId.{NodeId}
use Rattle.st_marks.specs.declared.places.Spot.{Spot}
use Rattle.st_marks.specs.Document.{Document}
use Rattle.st_marks.specs.Intent.{put_of}
use Rattle.st_marks.specs.CarryOut.{full, with_names, with_schema}
use Rattle.st_doc.specs.inside.Ahead.{place_ahead, with_moves}
use Rattle.st_doc.specs.Doc.{document_of}
use Rattle.st_doc.proofs.Carrying.{ahead_after}
use Rattle.st_doc.proofs.OneDocument.{same_document}
use Rattle.st_doc.proofs.doc.Doc.carry_whole.Goals as goal

pub move_nodes-requires : goal.move_nodes-requires
move_nodes-requires c =
    subst (λ (E : Document). (n : NodeId) (f : FieldId) → (E.held f ≡ Some n) ↔ (E.place n ≡ Spot.Register f))
    (sym c.in_ok-add_names.ensures) c.requires.sound.one_held

pub returns : goal.returns
returns c =
    let D = document_of c.args.self.now in
    let N = c.args.intent.now in
    let targets = c.args.targets in
    let moved = c.in_ok-move_nodes.ensures ∙ ap (with_moves N targets) c.in_ok-add_names.ensures in
    same_document _ (full D N)
    (λ n. ap (λ (E : Document). E.nodes n) moved)
    (λ n. ap (λ (E : Document). E.rows n) moved)
    (λ k. ap (λ (E : Document). E.row_of k) moved)
    (λ n. ap (λ (E : Document). E.place n) moved
    ∙ ap (λ t. place_ahead N t (D.place n)) (c.requires.targets n)
    ∙ ahead_after (with_names D N).row_of N (put_of N n) (D.place n))
    (λ f. ap (λ (E : Document). E.held f) moved)
    (c.in_ok-add_schema.ensures ∙ ap (λ (E : Document). with_schema N N.schema E.schemas) moved)
