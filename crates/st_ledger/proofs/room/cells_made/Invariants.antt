-- the cells so far, as far as they can be counted
use Rattle.std.proofs.Common.{◌≡◌, ◌-◌, ◌^◌, min, take}
use Rattle.std.specs.List.{sum_by}
use Rattle.st_valid.specs.Room.{cells_made_in}
use Rattle.st_ledger.proofs.room.cells_made.Given as goal

abbrev pub invariant-loop-row : goal.invariant-loop-row
invariant-loop-row l = l.count ≡ min (sum_by cells_made_in (take l.row-index l.rows)) (2 ^ 64 - 1)
