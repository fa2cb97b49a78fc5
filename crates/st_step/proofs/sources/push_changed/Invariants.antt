use Rattle.std.proofs.Common.{◌≡◌, ◌++◌, take}
use Rattle.std.specs.List.{filter_map}
use Rattle.st_doc.specs.Doc.{document_of}
use Rattle.st_step.specs.inside.Sources.{changed_node}
use Rattle.st_step.proofs.sources.push_changed.Given as goal

abbrev pub invariant-loop-node : goal.invariant-loop-node
invariant-loop-node l = l.names ≡ l.initial.names ++ filter_map (changed_node (document_of l.doc) (document_of l.later)) (take l.node-index l.nodes)
