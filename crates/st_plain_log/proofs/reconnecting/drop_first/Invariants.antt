use Rattle.std.proofs.Common.{◌≡◌, ◌≤◌, drop, length}
use Rattle.st_plain_log.proofs.reconnecting.drop_first.Given as goal

-- what is left to go is there, and what stays is behind it
abbrev pub invariant-gone : goal.invariant-gone
invariant-gone l = record { rest : drop l.left l.pending ≡ drop l.initial.left l.initial.pending; within : l.left ≤ length l.pending }

abbrev pub decreases-gone : goal.decreases-gone
decreases-gone l = l.left
