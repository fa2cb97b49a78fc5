-- the cells so far, and then those of the nodes that are left
use Rattle.std.proofs.Common.{◌≡◌, ◌+◌, ◌++◌, drop}
use Rattle.st_edits.specs.Resolve.{cells_for}
use Rattle.st_resolve.proofs.intents.cells_for.Given as goal

abbrev pub invariant-loop-node : goal.invariant-loop-node
invariant-loop-node l = record {
  at : l.at ≡ l.first + l.node-index;
  cells : l.cells ++ cells_for l.rev l.at (drop l.node-index l.nodes) ≡ cells_for l.rev l.first l.nodes;
}
