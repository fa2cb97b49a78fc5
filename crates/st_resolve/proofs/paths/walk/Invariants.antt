-- the rest of the path leads on from here
use Rattle.std.proofs.Common.{◌≡◌, drop}
use Rattle.st_doc.specs.Doc.{document_of}
use Rattle.st_edits.specs.Paths.{walk_from}
use Rattle.st_edits.specs.Resolve.{walk}
use Rattle.st_resolve.proofs.paths.walk.Given as goal

abbrev pub invariant-loop-i : goal.invariant-loop-i
invariant-loop-i l = walk_from (document_of l.doc) l.i l.node (drop l.i l.place-items) ≡ walk (document_of l.doc) l.place-items
