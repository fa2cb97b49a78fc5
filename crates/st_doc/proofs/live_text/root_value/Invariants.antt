use Rattle.std.proofs.Common.{◌≤◌, length}
use Rattle.st_doc.specs.Doc.{document_of}
use Rattle.st_doc.specs.LiveText.{is_among}
use Rattle.st_doc.specs.inside.LiveText.{AllShown}
use Rattle.st_doc.proofs.Ordered.{AreReady}
use Rattle.st_doc.proofs.live_text.root_value.Given as goal

abbrev pub invariant-loop-left : goal.invariant-loop-left
invariant-loop-left l = record {
  within : l.left ≤ length l.order.items;
  shown : AllShown (is_among l.arrays) (document_of l.doc) l.done;
  ready : AreReady (document_of l.doc) l.order.items l.left l.done;
}

abbrev pub decreases-loop-left : goal.decreases-loop-left
decreases-loop-left l = l.left
