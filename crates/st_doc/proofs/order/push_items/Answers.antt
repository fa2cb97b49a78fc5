use Rattle.std.proofs.Common.{◌∙◌, get_or, refl, sym, ap}
use Rattle.st_doc.specs.Doc.{document_of}
use Rattle.st_doc.proofs.Look.{no_cell}
use Rattle.st_doc.proofs.LiveTexts.{pushed_full, pushed_empty}
use Rattle.st_doc.proofs.order.push_items.Goals as goal
use Rattle.st_doc.proofs.order.push_items.Goals.{then-is_full+in_ok-push, else-is_full}

pub loop-owned-preserved : goal.loop-owned-preserved
loop-owned-preserved c =
    let D = document_of c.args.doc.now in
    let row = c.cells_of-owned-items.result.now in
    let i = c.loop-owned.owned-index in
    let o = get_or row i no_cell in
    let before = c.loop-owned.order.items in
    let now = c.if-is_full.order.items in
    elim c.if-is_full.branch [
      | then-is_full+in_ok-push w ↦ pushed_full D row i no_cell o c.loop-owned-test.true refl before now c.args.order.now.items (sym w.if-is_full.ensures)
          (ap (λ vs. vs.items) w.order-is ∙ w.in_ok-push.ensures.items) c.loop-owned.invariant
      | else-is_full w ↦ pushed_empty D row i no_cell o c.loop-owned-test.true refl before now c.args.order.now.items (sym w.if-is_full.ensures)
          (ap (λ vs. vs.items) w.order-is) c.loop-owned.invariant
    ]
