use Rattle.std.proofs.Common.{◌↔◌, drop, length}
use Rattle.st_author_over.specs.inside.Seen.{IsFree}
use Rattle.st_author_over.proofs.cells.is_free.Given as goal

abbrev pub invariant-slots : goal.invariant-slots
invariant-slots l = IsFree l.step l.change (drop l.place l.row) ↔ IsFree l.step l.change l.row

abbrev pub decreases-slots : goal.decreases-slots
decreases-slots l = length (drop l.place l.row)
