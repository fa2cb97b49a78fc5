use Rattle.std.proofs.Common.{◌≡◌, ◌^◌, min, take}
use Rattle.st_lean.specs.inside.Room.{cells_listed}
use Rattle.st_lean.proofs.room.listed.Given as goal

abbrev pub invariant-loop-row : goal.invariant-loop-row
invariant-loop-row l = l.count ≡ min (cells_listed (take l.row-index l.rows)) (2 ^ 32)
