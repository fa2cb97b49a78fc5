use Rattle.std.proofs.Common.{◌≡◌, take}
use Rattle.st_marks.specs.Row.{spread}
use Rattle.st_moves.specs.inside.Rows.{bare}
use Rattle.st_over.proofs.bare.bare_marks.Given as goal

abbrev pub invariant-loop-mark : goal.invariant-loop-mark
invariant-loop-mark l = spread l.list ≡ bare (spread (take l.mark-index l.marks))
