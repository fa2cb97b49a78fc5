use Rattle.std.proofs.Common.{◌≡◌, ◌++◌, take}
use Rattle.st_agree.proofs.names.add_nodes.Given as goal

abbrev pub invariant-loop-node : goal.invariant-loop-node
invariant-loop-node l = l.names ≡ l.initial.names ++ take l.node-index l.nodes
