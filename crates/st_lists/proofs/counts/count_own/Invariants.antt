-- the own commits so far, and then those of the entries that are left
use Rattle.std.proofs.Common.{◌≡◌, ◌≤◌, length, take}
use Rattle.st_lists.specs.Log.{commits_by}
use Rattle.st_lists.proofs.counts.count_own.Given as goal

abbrev pub invariant-loop-entry : goal.invariant-loop-entry
invariant-loop-entry l = record { counted : l.count ≡ length (commits_by l.session (take l.entry-index l.entries)); few : l.count ≤ l.entry-index }
