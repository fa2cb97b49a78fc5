-- the cells so far, as far as they can be counted
use Rattle.std.proofs.Common.{◌≡◌, ◌-◌, ◌^◌, min, take}
use Rattle.std.specs.List.{sum_by}
use Rattle.st_valid.specs.Room.{makes_cell}
use Rattle.st_ledger.proofs.room.cells_made_in.Given as goal

abbrev pub invariant-loop-mark : goal.invariant-loop-mark
invariant-loop-mark l = l.count ≡ min (sum_by makes_cell (take l.mark-index l.mark-items)) (2 ^ 64 - 1)
