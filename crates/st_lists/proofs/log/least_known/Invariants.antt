-- the least so far, and then that of the clients that are left
use Rattle.std.proofs.Common.{◌≡◌, ℕ, cond, drop, min}
use Rattle.std.specs.List.{fold}
use Rattle.st_lists.specs.Known.{known_so_far}
use Rattle.st_lists.specs.declared.lists.Client.{Client}
use Rattle.st_lists.proofs.log.least_known.Given as goal

abbrev pub invariant-loop-client : goal.invariant-loop-client
invariant-loop-client l =
    let lower : ℕ → Client → ℕ = λ least c. cond c.connected (min least (known_so_far l.known c.session)) least in
    fold lower l.least (drop l.client-index l.clients) ≡ fold lower l.initial.least l.clients
