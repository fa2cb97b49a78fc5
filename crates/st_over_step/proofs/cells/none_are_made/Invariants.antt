use Rattle.std.proofs.Common.{◌↔◌}
use Rattle.std.specs.BTreeMap.{values}
use Rattle.std.specs.List.{AllByRecursion}
use Rattle.st_over_step.specs.inside.Tables.{IsNotMade}
use Rattle.st_over_step.proofs.cells.none_are_made.Given as goal

abbrev pub invariant-loop-slots : goal.invariant-loop-slots
invariant-loop-slots l = AllByRecursion (AllByRecursion (IsNotMade l.rows)) l.slots-iterator ↔ AllByRecursion (AllByRecursion (IsNotMade l.rows)) (values l.forest.rows)
