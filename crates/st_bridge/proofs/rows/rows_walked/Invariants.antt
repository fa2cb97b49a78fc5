use Rattle.std.proofs.Common.{◌≡◌, take}
use Rattle.std.specs.List.{filter_map}
use Rattle.st_bridge.specs.inside.Walked.{row_walked}
use Rattle.st_bridge.proofs.rows.rows_walked.Given as goal

abbrev pub invariant-loop-row : goal.invariant-loop-row
invariant-loop-row l = l.list ≡ filter_map (row_walked l.change.rows.now l.step.rows.now) (take l.row-index l.rows)
