use Rattle.std.proofs.Common.{◌≡◌, ◌++◌, Some}
use Rattle.std.specs.List.{filter_map}
use Rattle.st_ids.specs.declared.names.NodeId.{NodeId}
use Rattle.st_embed.proofs.lists.names_in.Given as goal

-- what is listed, and what is left to be gone through
abbrev pub invariant-loop-node : goal.invariant-loop-node
invariant-loop-node l = l.list ++ filter_map (λ (n : NodeId). Some n) l.node-iterator ≡ filter_map (λ (n : NodeId). Some n) l.nodes.keys
