use Rattle.std.proofs.Common.{◌≡◌, ◌++◌}
use Rattle.std.specs.List.{filter_map}
use Rattle.st_ids.specs.declared.names.NodeId.{NodeId}
use Rattle.st_marks.specs.Step.{gained_node}
use Rattle.st_doc.specs.Doc.{document_of}
use Rattle.st_step.proofs.new.gained_nodes.Given as goal

-- what is listed, and what is left to be gone through
abbrev pub invariant-loop-node : goal.invariant-loop-node
invariant-loop-node l =
    l.list ++ filter_map (λ (n : NodeId). gained_node n ((document_of l.doc).nodes n) ((document_of l.later).nodes n)) l.node-iterator
    ≡ filter_map (λ (n : NodeId). gained_node n ((document_of l.doc).nodes n) ((document_of l.later).nodes n)) l.nodes.keys
