use Rattle.std.proofs.Common.{◌≡◌, ◌++◌}
use Rattle.st_forest.proofs.copy.copy_entries.Given as goal

-- what is copied, and what is left to copy
abbrev pub invariant-loop-key : goal.invariant-loop-key
invariant-loop-key g l = l.entries.items ++ l.key-iterator ≡ l.map.entries
