use Rattle.std.proofs.Common.{◌≡◌, ◌++◌}
use Rattle.std.specs.List.{filter_map}
use Rattle.st_meaning.proofs.Listed.{group_entry}
use Rattle.st_meaning.proofs.groups.listed.Given as goal

-- what is listed, and what is left of the map
abbrev pub invariant-loop-place : goal.invariant-loop-place
invariant-loop-place l = l.groups ++ filter_map group_entry l.place-iterator ≡ filter_map group_entry l.map.entries
