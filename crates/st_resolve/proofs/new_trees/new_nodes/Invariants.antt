-- those of the nodes so far
use Rattle.std.proofs.Common.{◌≡◌, take}
use Rattle.st_edits.specs.New.{new_nodes}
use Rattle.st_resolve.proofs.new_trees.new_nodes.Given as goal

abbrev pub invariant-loop-flat : goal.invariant-loop-flat
invariant-loop-flat l = l.new ≡ new_nodes (take l.flat-index l.nodes)
