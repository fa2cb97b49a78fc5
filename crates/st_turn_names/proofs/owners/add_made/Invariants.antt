use Rattle.std.proofs.Common.{◌≡◌, ◌++◌, take}
use Rattle.st_marks.specs.Listings.{cells_made}
use Rattle.st_marks.specs.Row.{spread}
use Rattle.st_turn_names.proofs.owners.add_made.Given as goal

abbrev pub invariant-loop-mark : goal.invariant-loop-mark
invariant-loop-mark l = l.list ≡ l.initial.list ++ cells_made (spread (take l.mark-index l.marks))
