use Rattle.std.proofs.Common.{◌≡◌, ◌++◌, ◌+◌, ◌*◌, ◌^◌, ◌≤◌, length}
use Rattle.st_clash.specs.inside.Seen.{seen_from}
use Rattle.st_clash.proofs.seen.add_seen.Given as goal

abbrev pub invariant-marks : goal.invariant-marks
invariant-marks l = (l.list ++ seen_from l.row l.place l.rest ≡ l.initial.list ++ seen_from l.row 0 l.marks) × (l.place + 2 ^ 32 * length l.rest ≤ 2 ^ 32 * length l.marks)

abbrev pub decreases-marks : goal.decreases-marks
decreases-marks l = length l.rest
