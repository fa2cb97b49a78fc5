use Rattle.std.proofs.Common.{◌≡◌, ◌++◌, take}
use Rattle.st_marks.specs.Listings.{nodes_in}
use Rattle.st_marks.specs.Row.{spread}
use Rattle.st_turn_names.proofs.names.add_marks.Given as goal

abbrev pub invariant-loop-mark : goal.invariant-loop-mark
invariant-loop-mark l = l.names ≡ l.initial.names ++ nodes_in (spread (take l.mark-index l.marks))
