use Rattle.std.proofs.Common.{◌++◌, refl, sym, ap, ◌∙◌, get_or, drop, filter, map, true}
use Rattle.st_marks.specs.declared.places.Slot.{Slot}
use Rattle.st_marks.specs.Document.{slot}
use Rattle.st_doc.specs.Doc.{document_of}
use Rattle.st_doc.proofs.Look.{no_cell}
use Rattle.st_marks.specs.LiveTree.{live_slots}
use Rattle.st_doc.proofs.Showing.{kept_more, left_more}
use Rattle.st_doc.proofs.doc.Doc.live_slots.Goals as goal
use Rattle.st_doc.proofs.doc.Doc.live_slots.Goals.{then-is_full+in_ok-push, else-is_full}

pub loop-owned-preserved : goal.loop-owned-preserved
loop-owned-preserved c =
    let D = document_of c.args.self.now in
    let row = c.cells_of-owned-items.result.now in
    let i = c.loop-owned.owned-index in
    let none = no_cell in
    let o = get_or row i none in
    let whole = live_slots D c.args.node in
    elim c.if-is_full.branch [
      | then-is_full+in_ok-push w ↦
          let is_full = w.if-is_full.ensures in
          kept_more (slot D) (λ (s : Slot). s.full) row i none o c.loop-owned-test.true refl c.loop-owned.slots c.if-is_full.slots whole (record { cell = o.cell; node = o.node; full = true })
          (sym is_full) (λ j. record { cell = o.cell; node = o.node; full = is_full j }) (w.slots-is ∙ w.in_ok-push.ensures.ok) c.loop-owned.invariant
      | else-is_full w ↦
          left_more (slot D) (λ (s : Slot). s.full) row i none o c.loop-owned-test.true refl c.if-is_full.slots whole (sym w.if-is_full.ensures) (ap (λ slots. slots ++ filter (λ (s : Slot). s.full) (map (slot D) (drop i row))) w.slots-is ∙ c.loop-owned.invariant)
    ]
