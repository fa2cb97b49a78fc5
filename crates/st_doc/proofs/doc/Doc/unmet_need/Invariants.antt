use Rattle.std.proofs.Common.{take}
use Rattle.st_ids.specs.Listing.{Has}
use Rattle.st_marks.specs.Document.{IsLive}
use Rattle.st_doc.specs.inside.Ahead.{IsLeastOf}
use Rattle.st_doc.specs.Doc.{document_of}
use Rattle.st_doc.proofs.doc.Doc.unmet_need.Given as goal

abbrev pub invariant-loop-node : goal.invariant-loop-node
invariant-loop-node l = IsLeastOf (λ n. Has (take l.node-index l.node-items) n × (IsLive (document_of l.self) n → ⊥)) l.least
