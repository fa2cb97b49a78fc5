-- what is marked is reachable, and what a followed type may hold is marked
use Rattle.std.proofs.Common.{◌≡◌, length}
use Rattle.st_compat.specs.inside.Marks.{AreMarks, left}
use Rattle.st_compat.proofs.reached.mark_reachable.Given as goal

abbrev pub invariant-marks : goal.invariant-marks
invariant-marks l = record { long : length l.followed ≡ 256; are : AreMarks l.schema l.marks l.followed }

abbrev pub decreases-marks : goal.decreases-marks
decreases-marks l = left l.followed
