use Rattle.std.specs.BTreeSet.{contains}
use Rattle.st_ids.specs.Order.{node_cmp}
use Rattle.st_climb.proofs.NodesAbove.{Gathering}
use Rattle.st_climb.proofs.climb.upwards.Given as goal

abbrev pub invariant-loop-node : goal.invariant-loop-node
invariant-loop-node g l = Gathering (g.A.Above.up l.places) l.begins.keys l.node-iterator (contains node_cmp l.nodes)
