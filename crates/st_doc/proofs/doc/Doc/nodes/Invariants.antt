use Rattle.std.proofs.Common.{◌≡◌, ◌++◌}
use Rattle.std.specs.Map.{keys_of}
use Rattle.st_doc.proofs.doc.Doc.nodes.Given as goal

-- what is listed, and what is left to list
abbrev pub invariant-loop-node : goal.invariant-loop-node
invariant-loop-node l = l.nodes ++ keys_of l.node-iterator ≡ keys_of l.self.nodes.entries
