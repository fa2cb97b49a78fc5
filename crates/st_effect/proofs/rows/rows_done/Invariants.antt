use Rattle.std.proofs.Common.{◌≡◌, map, take}
use Rattle.st_effect.specs.inside.Done.{row_done}
use Rattle.st_effect.proofs.rows.rows_done.Given as goal

abbrev pub invariant-loop-row : goal.invariant-loop-row
invariant-loop-row l = l.done ≡ map (row_done l.void l.new) (take l.row-index l.rows)
