-- the least so far, and then that of the sessions that are left
use Rattle.std.proofs.Common.{◌≡◌, ◌==◌, ℕ, cond, drop, min, not}
use Rattle.std.specs.List.{fold}
use Rattle.st_lists.specs.Known.{known_so_far}
use Rattle.st_ledger.proofs.references.least_without.Given as goal

abbrev pub invariant-loop-one : goal.invariant-loop-one
invariant-loop-one l =
    let lower : ℕ → ℕ → ℕ = λ least t. cond (not (t == l.session)) (min least (known_so_far l.known t)) least in
    fold lower l.least (drop l.one-index l.connected) ≡ fold lower l.initial.least l.connected
