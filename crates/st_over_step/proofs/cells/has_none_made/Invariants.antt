use Rattle.std.proofs.Common.{◌↔◌, drop}
use Rattle.std.specs.List.{AllByRecursion}
use Rattle.st_over_step.specs.inside.Tables.{IsNotMade}
use Rattle.st_over_step.proofs.cells.has_none_made.Given as goal

abbrev pub invariant-loop-place : goal.invariant-loop-place
invariant-loop-place l = AllByRecursion (IsNotMade l.rows) (drop l.place l.slots) ↔ AllByRecursion (IsNotMade l.rows) l.slots
