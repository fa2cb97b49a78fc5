use Rattle.std.proofs.Common.{◌≡◌, map, take}
use Rattle.st_agree_turn.specs.inside.Left.{row_left}
use Rattle.st_agree_turn.proofs.left.rows_left.Given as goal

abbrev pub invariant-loop-row : goal.invariant-loop-row
invariant-loop-row l = l.list ≡ map row_left (take l.row-index l.rows)
