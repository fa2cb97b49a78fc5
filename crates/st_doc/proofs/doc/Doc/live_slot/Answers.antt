use Rattle.std.proofs.Common.{slice_get, refl, sym, ap, ◌∙◌, get_or, drop, filter, map, arith}
use Rattle.st_marks.specs.declared.places.Slot.{Slot}
use Rattle.st_marks.specs.Document.{slot}
use Rattle.st_doc.specs.Doc.{document_of}
use Rattle.st_doc.proofs.Look.{no_cell}
use Rattle.st_marks.specs.LiveTree.{live_slots}
use Rattle.st_doc.proofs.Queries.{one_less, not_counted}
use Rattle.st_doc.proofs.doc.Doc.live_slot.Goals as goal
use Rattle.st_doc.proofs.doc.Doc.live_slot.Goals.{then-is_full+else-left-eq0, else-is_full}

pub loop-owned-preserved : goal.loop-owned-preserved
loop-owned-preserved c =
    let D = document_of c.args.self.now in
    let row = c.cells_of-owned-items.result.now in
    let i = c.loop-owned.owned-index in
    let none = no_cell in
    let o = get_or row i none in
    let full = λ (s : Slot). s.full in
    let whole = slice_get (live_slots D c.args.node) c.args.index in
    elim c.if-is_full.branch [
      | then-is_full+else-left-eq0 w ↦
          one_less (slot D) full row i none o c.loop-owned-test.true refl c.loop-owned.left c.if-is_full.left whole (sym w.if-is_full.ensures) (grind (arith)) c.loop-owned.invariant
      | else-is_full w ↦
          not_counted (slot D) full row i none o c.loop-owned-test.true refl c.if-is_full.left whole (sym w.if-is_full.ensures)
          (ap (slice_get (filter full (map (slot D) (drop i row)))) w.left-is ∙ c.loop-owned.invariant)
    ]
