use Rattle.std.proofs.Common.{◌≡◌, ◌++◌, ◌-◌, drop, length}
use Rattle.st_plain_branches.specs.Branches.{void_among}
use Rattle.st_plain_branches.proofs.branches.void_revs.Given as goal

-- those so far, and then those among the rest
abbrev pub invariant-all : goal.invariant-all
invariant-all l = void_among l.own l.carried ≡ l.revs ++ void_among (drop l.i l.own) (drop l.i l.carried)

abbrev pub decreases-all : goal.decreases-all
decreases-all l = length l.own - l.i
