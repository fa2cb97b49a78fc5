use Rattle.std.proofs.Common.{◌-◌, length}
use Rattle.st_doc.specs.Doc.{document_of}
use Rattle.st_doc.proofs.Ordered.{SoFar}
use Rattle.st_doc.proofs.order.top_down.Given as goal

abbrev pub invariant-loop-node : goal.invariant-loop-node
invariant-loop-node l = SoFar (document_of l.doc) l.order.items l.next

abbrev pub decreases-loop-node : goal.decreases-loop-node
decreases-loop-node l = length l.doc.nodes.entries - l.next
