use Rattle.std.proofs.Common.{◌∙◌, get_or, map, refl, sym, ap, subst}
use Rattle.st_ids.specs.Listing.{AreDistinct}
use Rattle.st_ids.specs.declared.names.NodeId.{NodeId}
use Rattle.st_marks.specs.Document.{slot}
use Rattle.st_marks.specs.LiveTree.{owners_shown}
use Rattle.st_doc.specs.inside.LiveText.{AreMade}
use Rattle.std.specs.BTreeMap.{get}
use Rattle.st_ids.specs.Order.{node_cmp}
use Rattle.st_doc.specs.Doc.{document_of}
use Rattle.st_doc.proofs.Look.{no_cell}
use Rattle.st_doc.proofs.Children.{row_once}
use Rattle.st_doc.proofs.LiveTexts.{part_in_turn, part_same, part_without, values_more, values_same, value_there, others_full, others_empty}
use Rattle.st_doc.proofs.live_text.row_values.Goals as goal
use Rattle.st_doc.proofs.live_text.row_values.Goals.{then-is_full+in_ok-push, else-is_full}

pub take-requires : goal.take-requires
take-requires c =
    let D = document_of c.args.doc.now in
    let row = c.cells_of-owned-items.result.now in
    let i = c.loop-owned.owned-index in
    let o = get_or row i no_cell in
    value_there D row i no_cell o c.loop-owned-test.true refl c.args.done.now c.loop-owned.done (subst (λ os. AreDistinct (λ (x : NodeId). x) (owners_shown (map (slot D) os))) (sym c.cells_of-owned-items.ensures) (row_once D c.requires.sound c.args.node)) (sym c.if-is_full.ensures)
    (subst (λ os. AreMade c.args.done.now (owners_shown (map (slot D) os))) (sym c.cells_of-owned-items.ensures) c.requires.made) c.loop-owned.invariant.rest

pub loop-owned-preserved : goal.loop-owned-preserved
loop-owned-preserved c =
    let D = document_of c.args.doc.now in
    let row = c.cells_of-owned-items.result.now in
    let i = c.loop-owned.owned-index in
    let o = get_or row i no_cell in
    let done = c.args.done.now in
    let before = c.loop-owned.invariant in
    elim c.if-is_full.branch [
      | then-is_full+in_ok-push w ↦ record {
        part = part_in_turn c.if-is_full.done c.loop-owned.done done (part_in_turn c.if-is_full.done w.take.new.done c.loop-owned.done (part_same c.if-is_full.done w.take.new.done w.done-is)
            (part_without o.node w.take.new.done c.loop-owned.done w.take.ensures.rest)) before.part;
        values = values_more D row i no_cell o c.loop-owned-test.true refl done c.loop-owned.values.items c.if-is_full.values.items w.take.result (sym w.if-is_full.ensures)
            (ap (λ vs. vs.items) w.values-is ∙ w.in_ok-push.ensures.items) (before.part o.node w.take.result w.take.ensures.value) before.values;
        rest = others_full D row i no_cell o c.loop-owned-test.true refl c.if-is_full.done c.loop-owned.done done (sym w.if-is_full.ensures)
            (λ q. ap (λ m. get node_cmp m q) w.done-is ∙ w.take.ensures.rest q) before.rest;
      }
      | else-is_full w ↦ record {
        part = part_in_turn c.if-is_full.done c.loop-owned.done done (part_same c.if-is_full.done c.loop-owned.done w.done-is) before.part;
        values = values_same D row i no_cell o c.loop-owned-test.true refl done c.loop-owned.values.items c.if-is_full.values.items (sym w.if-is_full.ensures) (ap (λ vs. vs.items) w.values-is) before.values;
        rest = others_empty D row i no_cell o c.loop-owned-test.true refl c.if-is_full.done c.loop-owned.done done (sym w.if-is_full.ensures) w.done-is before.rest;
      }
    ]
