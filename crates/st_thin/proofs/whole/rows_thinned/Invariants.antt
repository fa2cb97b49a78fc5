use Rattle.std.proofs.Common.{◌≡◌, map, take}
use Rattle.st_thin.specs.inside.Thinning.{row_thinned}
use Rattle.st_thin.proofs.whole.rows_thinned.Given as goal

abbrev pub invariant-loop-row : goal.invariant-loop-row
invariant-loop-row l = l.thinned ≡ map row_thinned (take l.row-index l.rows)
