use Rattle.std.proofs.Common.{◌≡◌, ◌++◌}
use Rattle.std.specs.List.{filter_map}
use Rattle.st_meaning.proofs.Listed.{put_entry}
use Rattle.st_meaning.proofs.puts.listed.Given as goal

-- what is listed, and what is left of the map
abbrev pub invariant-loop-node : goal.invariant-loop-node
invariant-loop-node l = l.puts ++ filter_map put_entry l.node-iterator ≡ filter_map put_entry l.map.entries
