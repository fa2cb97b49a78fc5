use Rattle.std.proofs.Common.{map, take}
use Rattle.st_marks.specs.Document.{slot}
use Rattle.st_marks.specs.LiveTree.{owners_shown}
use Rattle.st_doc.specs.Doc.{document_of}
use Rattle.st_doc.specs.inside.LiveText.{AreValues, IsPart, KeepsOthers}
use Rattle.st_doc.proofs.live_text.row_values.Given as goal

abbrev pub invariant-loop-owned : goal.invariant-loop-owned
invariant-loop-owned l = record {
  part : IsPart l.done l.initial.done;
  values : AreValues l.initial.done (owners_shown (map (slot (document_of l.doc)) (take l.owned-index l.owned-items))) l.values.items;
  rest : KeepsOthers (owners_shown (map (slot (document_of l.doc)) (take l.owned-index l.owned-items))) l.done l.initial.done;
}
