use Rattle.std.proofs.Common.{◌≡◌, false, take}
use Rattle.std.specs.List.{list_any}
use Rattle.st_doc.specs.Doc.{document_of}
use Rattle.st_step.specs.inside.Marks.{differs}
use Rattle.st_step.proofs.marks.row_differs.Given as goal

abbrev pub invariant-loop-owned : goal.invariant-loop-owned
invariant-loop-owned l = list_any (differs (document_of l.doc) (document_of l.later)) (take l.owned-index l.owned-items) ≡ false
