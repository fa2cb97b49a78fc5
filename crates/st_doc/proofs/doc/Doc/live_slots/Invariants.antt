use Rattle.std.proofs.Common.{◌≡◌, ◌++◌, drop, filter, map}
use Rattle.st_marks.specs.declared.places.Slot.{Slot}
use Rattle.st_marks.specs.Document.{slot}
use Rattle.st_doc.specs.Doc.{document_of}
use Rattle.st_marks.specs.LiveTree.{live_slots}
use Rattle.st_doc.proofs.doc.Doc.live_slots.Given as goal

abbrev pub invariant-loop-owned : goal.invariant-loop-owned
invariant-loop-owned l = l.slots ++ filter (λ (s : Slot). s.full) (map (slot (document_of l.self)) (drop l.owned-index l.owned-items)) ≡ live_slots (document_of l.self) l.fn.node
