use Rattle.std.proofs.Common.{◌≡◌, map, take}
use Rattle.st_ids.specs.declared.names.NodeId.{NodeId}
use Rattle.st_seq.specs.NamedApart.{found_at}
use Rattle.st_seq.proofs.owners.names_of.Given as goal

abbrev pub invariant-loop-node : goal.invariant-loop-node
invariant-loop-node l = l.out ≡ map (λ (n : NodeId). found_at n.0 0) (take l.node-index l.nodes)
