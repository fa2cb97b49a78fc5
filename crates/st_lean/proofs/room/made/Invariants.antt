use Rattle.std.proofs.Common.{◌≡◌, ◌^◌, length, min, take}
use Rattle.st_marks.specs.Row.{spread}
use Rattle.st_marks.specs.Listings.{cells_made}
use Rattle.st_lean.proofs.room.made.Given as goal

abbrev pub invariant-loop-mark : goal.invariant-loop-mark
invariant-loop-mark l = l.count ≡ min (length (cells_made (spread (take l.mark-index l.mark-items)))) (2 ^ 32)
