-- the registers so far, and then those of the nodes that are left
use Rattle.std.proofs.Common.{◌≡◌, ◌++◌, drop}
use Rattle.st_opening.specs.Start.{registers}
use Rattle.st_resolve.proofs.new_trees.add_registers.Given as goal

abbrev pub invariant-loop-flat : goal.invariant-loop-flat
invariant-loop-flat l = l.fields ++ registers (drop l.flat-index l.nodes) ≡ l.initial.fields ++ registers l.nodes
