use Rattle.std.proofs.Common.{◌≡◌, map, take}
use Rattle.st_strip.specs.inside.Told.{row_back}
use Rattle.st_strip.proofs.rows.rows_back.Given as goal

abbrev pub invariant-loop-row : goal.invariant-loop-row
invariant-loop-row l = l.list ≡ map row_back (take l.row-index l.rows)
