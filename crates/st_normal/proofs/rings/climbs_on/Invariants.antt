use Rattle.std.proofs.Common.{◌≡◌, ℕ, ◌+◌, length, Some}
use Rattle.st_marks.specs.Document.{climb}
use Rattle.st_normal.proofs.rings.climbs_on.Given as goal

abbrev pub invariant-climb : goal.invariant-climb
invariant-climb g l = (k : ℕ) × (k + length (g.H.Hangs.rest l.hangs l.place) ≡ length (g.H.Hangs.nodes l.hangs)) × (climb (g.H.Hangs.up l.hangs) k l.fn.start ≡ Some l.here)

abbrev pub decreases-climb : goal.decreases-climb
decreases-climb g l = length (g.H.Hangs.rest l.hangs l.place)
