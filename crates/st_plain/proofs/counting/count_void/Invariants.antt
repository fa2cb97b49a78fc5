-- those that came out void so far
use Rattle.std.proofs.Common.{◌≡◌, ◌≤◌, filter, length, take}
use Rattle.st_plain.specs.inside.Counted.{came_out_void}
use Rattle.st_plain.proofs.counting.count_void.Given as goal

abbrev pub invariant-loop-entry : goal.invariant-loop-entry
invariant-loop-entry l = record { counted : l.count ≡ length (filter (came_out_void l.logged) (take l.entry-index l.log)); few : l.count ≤ l.entry-index }
