use Rattle.std.proofs.Common.{◌≡◌, ℕ, length, None}
use Rattle.std.specs.BTreeMap.{get}
use Rattle.std.specs.Ordering.{nat_cmp}
use Rattle.st_seats.specs.inside.Following.{IsUnderWay}
use Rattle.st_seats.proofs.following.all_follow.Given as goal

abbrev pub invariant-followed : goal.invariant-followed
invariant-followed g l = ((session : ℕ) → get nat_cmp l.fn.seats session ≡ None) → (session : ℕ) → IsUnderWay g.R.Carrier.listed l.step l.but session (get nat_cmp l.fn.left session) (get nat_cmp l.left session) (get nat_cmp l.seats session)

abbrev pub decreases-followed : goal.decreases-followed
decreases-followed g l = length l.left.entries
