use Rattle.std.proofs.Common.{◌≡◌, ◌++◌, map, take}
use Rattle.st_marks.specs.Document.{slot}
use Rattle.st_marks.specs.LiveTree.{owners_shown}
use Rattle.st_doc.specs.Doc.{document_of}
use Rattle.st_doc.proofs.order.push_items.Given as goal

abbrev pub invariant-loop-owned : goal.invariant-loop-owned
invariant-loop-owned l = l.order.items ≡ l.initial.order.items ++ owners_shown (map (slot (document_of l.doc)) (take l.owned-index l.owned-items))
