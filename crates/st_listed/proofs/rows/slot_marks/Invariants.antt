use Rattle.std.proofs.Common.{◌≡◌, map, take}
use Rattle.st_marks.specs.Row.{spread}
use Rattle.st_listed.specs.Named.{slot_mark}
use Rattle.st_listed.proofs.rows.slot_marks.Given as goal

abbrev pub invariant-loop-place : goal.invariant-loop-place
invariant-loop-place l = spread l.marks ≡ map slot_mark (take l.place l.row)
