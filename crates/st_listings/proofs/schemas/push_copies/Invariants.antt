use Rattle.std.proofs.Common.{◌≡◌, ◌++◌, take}
use Rattle.st_listings.proofs.schemas.push_copies.Given as goal

abbrev pub invariant-loop-entry : goal.invariant-loop-entry
invariant-loop-entry l = l.list ≡ l.initial.list ++ take l.entry-index l.entries
