use Rattle.std.proofs.Common.{◌↔◌}
use Rattle.std.specs.BTreeMap.{values}
use Rattle.std.specs.List.{AllByRecursion}
use Rattle.st_author_over.specs.inside.Seen.{IsFree}
use Rattle.st_author_over.proofs.cells.all_are_free.Given as goal

-- what holds of the rows that are left
abbrev pub invariant-loop-row : goal.invariant-loop-row
invariant-loop-row l = AllByRecursion (IsFree l.step l.change) l.row-iterator ↔ AllByRecursion (IsFree l.step l.change) (values l.forest.rows)
