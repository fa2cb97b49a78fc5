-- the names so far, and then those of the nodes that are left
use Rattle.std.proofs.Common.{◌≡◌, ◌≤◌, ◌+◌, ◌*◌, drop}
use Rattle.st_edits.specs.New.{names_taken}
use Rattle.st_resolve.proofs.new_trees.names_taken.Given as goal

abbrev pub invariant-loop-flat : goal.invariant-loop-flat
invariant-loop-flat l = record {
  few : l.count ≤ 2 * l.flat-index;
  names : l.count + names_taken (drop l.flat-index l.nodes) ≡ names_taken l.nodes;
}
