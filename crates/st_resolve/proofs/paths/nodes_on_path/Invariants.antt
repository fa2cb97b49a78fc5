-- the nodes so far, and then those beyond this one
use Rattle.std.proofs.Common.{◌≡◌, ◌++◌, drop}
use Rattle.st_ids.specs.Root.{root}
use Rattle.st_doc.specs.Doc.{document_of}
use Rattle.st_edits.specs.Paths.{nodes_below_path, nodes_on_path}
use Rattle.st_resolve.proofs.paths.nodes_on_path.Given as goal

abbrev pub invariant-loop-place : goal.invariant-loop-place
invariant-loop-place l = l.nodes ++ nodes_below_path (document_of l.doc) l.node (drop l.place-index l.place-items) ≡ nodes_on_path (document_of l.doc) root l.place-items
