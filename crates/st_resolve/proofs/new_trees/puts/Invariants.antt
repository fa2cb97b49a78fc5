-- the puts of the nodes so far
use Rattle.std.proofs.Common.{◌≡◌, take}
use Rattle.std.specs.Option.{option_copied}
use Rattle.st_edits.specs.New.{puts}
use Rattle.st_resolve.proofs.new_trees.puts.Given as goal

abbrev pub invariant-loop-flat : goal.invariant-loop-flat
invariant-loop-flat l = l.puts ≡ puts (option_copied l.into) (take l.flat-index l.nodes)
