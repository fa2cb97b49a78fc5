-- the marks so far are followed
use Rattle.std.proofs.Common.{◌≡◌, ◌<◌, ℕ, true}
use Rattle.st_compat.specs.inside.Marks.{flag}
use Rattle.st_compat.proofs.reached.next.Given as goal

abbrev pub invariant-loop-i : goal.invariant-loop-i
invariant-loop-i l = (k : ℕ) → k < l.i → flag l.marks k ≡ true → flag l.followed k ≡ true
