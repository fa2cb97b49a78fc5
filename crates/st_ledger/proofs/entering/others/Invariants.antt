-- the others so far
use Rattle.std.proofs.Common.{◌≡◌, ◌==◌, ℕ, filter, not, take}
use Rattle.st_ledger.proofs.entering.others.Given as goal

abbrev pub invariant-loop-one : goal.invariant-loop-one
invariant-loop-one l = l.rest ≡ filter (λ (s : ℕ). not (s == l.session)) (take l.one-index l.sessions)
