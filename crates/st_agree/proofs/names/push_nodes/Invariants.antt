use Rattle.std.proofs.Common.{◌≡◌, ◌++◌, take}
use Rattle.std.specs.List.{flat_map}
use Rattle.st_agree.specs.inside.Names.{made_again}
use Rattle.st_agree.proofs.names.push_nodes.Given as goal

abbrev pub invariant-loop-node : goal.invariant-loop-node
invariant-loop-node l = l.found ≡ l.initial.found ++ flat_map (made_again l.new) (take l.node-index l.nodes)
