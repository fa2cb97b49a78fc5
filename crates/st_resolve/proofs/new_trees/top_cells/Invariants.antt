-- the cells so far, and then those of the nodes that are left
use Rattle.std.proofs.Common.{◌≡◌, ◌++◌, drop}
use Rattle.st_edits.specs.New.{top_cells}
use Rattle.st_resolve.proofs.new_trees.top_cells.Given as goal

abbrev pub invariant-loop-flat : goal.invariant-loop-flat
invariant-loop-flat l = l.cells ++ top_cells (drop l.flat-index l.nodes) ≡ top_cells l.nodes
